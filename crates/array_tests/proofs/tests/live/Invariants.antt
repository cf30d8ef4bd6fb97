use Rattle.std.proofs.Common.{◌≡◌, length}
use Rattle.array_tests.proofs.tests.live.Given as goal

-- a column for each number so far
abbrev pub invariant-loop-device : goal.invariant-loop-device
invariant-loop-device l = length l.columns.items ≡ l.device
