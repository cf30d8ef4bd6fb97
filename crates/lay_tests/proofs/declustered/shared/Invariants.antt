use Rattle.std.proofs.Common.{◌≤◌, ◌+◌}
use Rattle.lay_tests.proofs.declustered.shared.Given as goal

abbrev pub invariant-loop-stripe : goal.invariant-loop-stripe
invariant-loop-stripe g l = l.count + 21 ≤ l.stripe
