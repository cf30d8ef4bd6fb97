use Rattle.std.proofs.Common.{refl, [], ◌∷◌}
use Rattle.eng_cols.specs.Samples.{rotated}
use Rattle.eng_world.specs.declared.item.Traced.TheVariants as event
use Rattle.eng_world.specs.Small.{opened, begun}
use Rattle.array_tests.proofs.tests.worlds.idle_stripes_of_the_small_array_encode_its_history.Goals as goal

pub returns : goal.returns
returns c graphs promises =
    let small = c.a_small_array_opens.ensures in
    c.idle_stripes_encode_the_history.ensures rotated graphs opened begun (event.Begin (record { client = 0; index = 0 }) ∷ [])
    small.layout promises small.opening small.in_sync (c.its_first_operation_begins.ensures graphs) refl
