use Rattle.std.proofs.Common.{◌∙◌, sym, subst, refl}
use Rattle.std.specs.Prelude.{IsSome}
use Rattle.blk_disk.proofs.DeviceLaws.{device_at-get}
use Rattle.act_tests.proofs.closes.asked.is_there.Goals as goal

pub returns-in-Some : goal.returns-in-Some
returns-in-Some g c = λ h. subst (λ o. IsSome o) (sym (device_at-get c.args.devices.now c.args.d c.index-devices-d.result c.if-d-devices.false ∙ (sym c.index-devices-d.is ∙ c.in-Some.is))) refl
