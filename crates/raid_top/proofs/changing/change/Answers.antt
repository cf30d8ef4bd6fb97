use Rattle.std.proofs.Common.{◌≡◌, length, ap, sym, subst, arith}
use Rattle.raid_conf.specs.Layouts.{shape_in}
use Rattle.top_run.proofs.Settled.{lent-back}
use Rattle.raid_top.specs.Arrays.{DoesOrder, ending_seen}
use Rattle.raid_top.proofs.changing.change.Goals as goal

pub returns : goal.returns
returns g c =
    let devices = c.args.devices in
    let new = c.alter-act.new.devices in
    let a : length new ≡ devices.len = omega (arith, c.alter-act.auto.devices, ap length c.as_mut_slice.ensures.value, c.as_mut_slice.ensures.len) in
    let y = shape_in c.args.ready.layout in
    let columns = c.args.ready.opened.columns.items in
    let e = ending_seen c.alter-act.new.array.hand.ending in
    subst (λ back. DoesOrder g.D.Disk y columns devices.items back c.alter-act.result e c.args.order) (sym (lent-back devices.items new devices.len a))
    (subst (λ old. DoesOrder g.D.Disk y columns old new c.alter-act.result e c.args.order) c.as_mut_slice.ensures.value c.alter-act.ensures)
