use Rattle.std.proofs.Common.{◌≡◌, All, length}
use Rattle.crew_tests.specs.Trial.{AreSmall}
use Rattle.crew_tests.proofs.crews.clients.Given as goal

abbrev pub invariant-loop-at : goal.invariant-loop-at
invariant-loop-at l = record { count : length l.clients.items ≡ l.at; small : All AreSmall l.clients.items }
