use Rattle.std.proofs.Common.{refl}
use Rattle.eng_world.specs.Small.{opened}
use Rattle.eng_world.proofs.Smalls.{small-begins}
use Rattle.array_tests.proofs.tests.worlds.its_first_operation_begins.Goals as goal

pub returns : goal.returns
returns c graphs = (opened, refl, (refl, small-begins))
