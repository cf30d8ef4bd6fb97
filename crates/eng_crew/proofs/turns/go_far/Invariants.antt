use Rattle.std.proofs.Common.{None}
use Rattle.eng_array.specs.Progress.{left_of}
use Rattle.eng_array.specs.Steady.{IsSteady}
use Rattle.eng_crew.specs.Laws.{TurnsTo}
use Rattle.eng_crew.proofs.turns.go_far.Given as goal

abbrev pub invariant-loop-found : goal.invariant-loop-found
invariant-loop-found g l = record { turned : TurnsTo g.L.Layout g.D.Disk l.fn.core None l.core None; steady : IsSteady g.L.Layout g.D.Disk l.core.array }

abbrev pub decreases-loop-found : goal.decreases-loop-found
decreases-loop-found g l = left_of l.core.array
