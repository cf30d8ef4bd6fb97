use Rattle.eng_array.specs.Steady.{IsSteady}
use Rattle.array_tests.proofs.tests.driving.serve.Given as goal

-- the core stays steady
abbrev pub invariant-loop : goal.invariant-loop
invariant-loop g l = IsSteady g.L.Layout g.D.Disk l.core.array
