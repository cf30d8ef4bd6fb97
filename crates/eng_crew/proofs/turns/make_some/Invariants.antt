use Rattle.std.proofs.Common.{None}
use Rattle.eng_array.specs.Steady.{IsSteady}
use Rattle.eng_crew.specs.Laws.{TurnsTo}
use Rattle.eng_crew.proofs.turns.make_some.Given as goal

abbrev pub invariant-loop-left : goal.invariant-loop-left
invariant-loop-left g l = record { turned : TurnsTo g.L.Layout g.D.Disk l.initial.core None l.core None; steady : IsSteady g.L.Layout g.D.Disk l.core.array }

abbrev pub decreases-loop-left : goal.decreases-loop-left
decreases-loop-left g l = l.left
