use Rattle.std.proofs.Common.{take}
use Rattle.std.specs.Prelude.{All}
use Rattle.array_tests.specs.Small.{IsSmall}
use Rattle.array_tests.proofs.tests.opening.is_script.Given as goal

-- the items so far are small
abbrev pub invariant-loop-at : goal.invariant-loop-at
invariant-loop-at g l = All (IsSmall (g.L.Layout.shape l.layout) l.graphs) (take l.at l.items.items)
