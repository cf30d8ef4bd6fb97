use Rattle.std.proofs.Common.{◌≡◌, ◌≤◌, take}
use Rattle.top_acts.specs.Counting.{alive}
use Rattle.top_acts.proofs.labelling.count_alive.Given as goal

-- those so far are counted
abbrev pub invariant-loop-column : goal.invariant-loop-column
invariant-loop-column l = (l.count ≡ alive (take l.column-index l.columns)) × (l.count ≤ l.column-index)
