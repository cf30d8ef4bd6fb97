use Rattle.eng_events.specs.Opened.{NoneOut}
use Rattle.eng_array.specs.Progress.{left_of}
use Rattle.eng_array.specs.Steady.{IsSteady}
use Rattle.eng_array.specs.Tickets.{After}
use Rattle.eng_crew.proofs.draining.drain.Given as goal

abbrev pub invariant-loop-turns : goal.invariant-loop-turns
invariant-loop-turns g l = record { steady : IsSteady g.L.Layout g.D.Disk l.core.array; home : NoneOut l.core.array.clients; after : After g.L.Layout g.D.Disk l.initial.core.array l.core.array }

abbrev pub decreases-loop-turns : goal.decreases-loop-turns
decreases-loop-turns g l = left_of l.core.array
