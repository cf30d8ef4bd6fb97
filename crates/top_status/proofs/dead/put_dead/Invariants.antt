use Rattle.std.proofs.Common.{◌≤◌, List, ℕ, Bool}
use Rattle.raid_bay.specs.Sink.{Puts}
use Rattle.top_status.specs.Dead.{dead_text, dead_columns}
use Rattle.top_status.proofs.DeadFrom.{dead_from}
use Rattle.top_status.proofs.dead.put_dead.Given as goal

-- whatever comes of the columns that are left comes of all of them
abbrev pub invariant-loop-number : goal.invariant-loop-number
invariant-loop-number g l = record {
  rest : g.K.Sink.tells → (b : Bool) (new : List ℕ) → Puts b (g.K.Sink.output l.out) (dead_from l.number l.columns) new → Puts b (g.K.Sink.output l.fn.out) (dead_text (dead_columns l.columns)) new;
  later : g.K.Sink.faults l.fn.out ≤ g.K.Sink.faults l.out;
}
