use Rattle.std.proofs.Common.{◌∙◌, sym, subst, refl, ap, arith}
use Rattle.std.specs.Prelude.{IsSome}
use Rattle.std.specs.Option.{option_map_or}
use Rattle.std.proofs.lemmas.Bool.{leb-true}
use Rattle.blk_disk.proofs.DeviceLaws.{device_at-get}
use Rattle.act_tests.proofs.rounds.is_there.Goals as goal

pub returns-in-Some-clause-there : goal.returns-in-Some-clause-there
returns-in-Some-clause-there g c = λ h. subst (λ o. IsSome o) (sym (device_at-get c.args.devices.now c.args.d c.index-devices-d.result c.if-d-devices.false ∙ (sym c.index-devices-d.is ∙ c.in-Some.is))) refl

pub returns-in-Some-clause-sized : goal.returns-in-Some-clause-sized
returns-in-Some-clause-sized g c = λ h.
    let size = ap (λ o. option_map_or g.D.Disk.size o 0) (device_at-get c.args.devices.now c.args.d c.index-devices-d.result c.if-d-devices.false ∙ (sym c.index-devices-d.is ∙ c.in-Some.is)) in
    omega (arith, leb-true 1 c.sectors.result h, c.sectors.ensures, size)
