use Rattle.std.proofs.Common.{◌∙◌, sym, subst}
use Rattle.raid_map.specs.Marking.{CanBeMarked}
use Rattle.act_tests.proofs.MapFitting.{can_mark}
use Rattle.act_tests.proofs.maps.opened.Goals as goal

pub read_maps-any-requires : goal.read_maps-any-requires
read_maps-any-requires g c =
    subst (λ l. CanBeMarked g.D.Disk l c.args.array.now.devices) (c.deref.ensures.value ∙ sym c.as_mut_slice.ensures.value)
    (can_mark g.D.Disk (g.L.Layout.shape c.args.layout.now) c.deref.result.now c.args.array.now.devices (c.can_act.ensures c.if-not-can_act.false))
