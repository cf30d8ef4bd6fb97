use Rattle.std.proofs.Common.{refl}
use Rattle.array_tests.proofs.tests.write.Goals as goal

pub returns : goal.returns
returns c = (_, refl)
