use Rattle.std.proofs.Common.{◌≡◌, drop}
use Rattle.top_rounds.specs.Labels.{done_in, filling_from}
use Rattle.top_rounds.proofs.seating.filling.Given as goal

-- none of the columns so far is filling
abbrev pub invariant-loop-column : goal.invariant-loop-column
invariant-loop-column l = (filling_from (drop l.column l.columns) l.column ≡ filling_from l.columns 0) × (done_in (drop l.column l.columns) ≡ done_in l.columns)
