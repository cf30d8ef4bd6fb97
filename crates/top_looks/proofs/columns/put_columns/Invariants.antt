use Rattle.std.proofs.Common.{◌≤◌, List, ℕ, Bool, length}
use Rattle.raid_bay.specs.Sink.{Puts}
use Rattle.top_looks.specs.Show.{column_text}
use Rattle.top_looks.specs.Steps.{columns_text}
use Rattle.top_looks.proofs.LinesFrom.{lines_from}
use Rattle.top_looks.proofs.columns.put_columns.Given as goal

-- whatever comes of the columns that are left comes of all of them
abbrev pub invariant-loop-c : goal.invariant-loop-c
invariant-loop-c g l = record {
  rest : g.K.Sink.tells → (b : Bool) (new : List ℕ) → Puts b (g.K.Sink.output l.out) (lines_from (column_text l.disks l.columns) l.c (length l.disks)) new → Puts b (g.K.Sink.output l.fn.out) (columns_text l.disks l.columns) new;
  later : g.K.Sink.faults l.fn.out ≤ g.K.Sink.faults l.out;
}
