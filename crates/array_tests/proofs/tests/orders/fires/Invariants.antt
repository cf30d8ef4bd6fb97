use Rattle.eng_array.specs.Steady.{IsSteady}
use Rattle.array_tests.proofs.tests.orders.fires.Given as goal

-- the core stays steady
abbrev pub invariant-loop-node : goal.invariant-loop-node
invariant-loop-node g l = IsSteady g.L.Layout g.D.Disk l.core.array
