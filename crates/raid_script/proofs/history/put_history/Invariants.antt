use Rattle.std.proofs.Common.{◌≤◌, List, ℕ, Bool, flat_map, drop}
use Rattle.raid_bay.specs.Sink.{Puts}
use Rattle.raid_script.specs.Steps.{commit_text}
use Rattle.raid_script.proofs.history.put_history.Given as goal

-- whatever comes of the items that are left comes of all of them
abbrev pub invariant-loop-id : goal.invariant-loop-id
invariant-loop-id g l = record {
  rest : g.K.Sink.tells → (b : Bool) (new : List ℕ) → Puts b (g.K.Sink.output l.out) (flat_map commit_text (drop l.id-index l.history)) new → Puts b (g.K.Sink.output l.fn.out) (flat_map commit_text l.history) new;
  later : g.K.Sink.faults l.fn.out ≤ g.K.Sink.faults l.out;
}
