use Rattle.std.proofs.Common.{◌≡◌, length, arith}
use Rattle.array_tests.proofs.tests.rebuilding.column_fails.Goals as goal

pub fail-requires-clause-column : goal.fail-requires-clause-column
fail-requires-clause-column g c = let many = c.requires.steady.sound.seated.fit.columns in let lt = c.requires.column in omega (arith, many, lt)

pub fail-requires-clause-not_lost : goal.fail-requires-clause-not_lost
fail-requires-clause-not_lost g c = (c.can.ensures.0 c.if-not-can.false).not_lost
