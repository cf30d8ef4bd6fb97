use Rattle.eng_cols.specs.Samples.{rotated}
use Rattle.eng_world.specs.Small.{opened, begun}
use Rattle.eng_world.proofs.Smalls.{small-begins}
use Rattle.std.proofs.Common.{refl}
use Rattle.array_tests.proofs.tests.worlds.its_first_operation_may_begin.Goals as goal

pub returns : goal.returns
returns c graphs = c.what_is_made_was_possible.ensures.begin rotated graphs opened begun (record { client = 0; index = 0 }) (refl, small-begins)
