use Rattle.eng_array.specs.Steady.{IsSteady}
use Rattle.array_tests.proofs.tests.orders.go.Given as goal

-- the core stays steady
abbrev pub invariant-loop-at : goal.invariant-loop-at
invariant-loop-at g l = IsSteady g.L.Layout g.D.Disk l.core.array
