use Rattle.std.proofs.Common.{◌≡◌, ◌≤◌, ℕ, zero, suc, List, [], ◌∷◌, length, Option, refl, sym, ap, ◌∙◌, arith}
use Rattle.std.specs.Option.{option_map_or}
use Rattle.blk_disk.specs.declared.disk.Disk.{Ghosts}
use Rattle.blk_disk.specs.Devices.{device_at, size_of}
use Rattle.blk_disk.proofs.DeviceLaws.{device_at-get}
use Rattle.recon_tests.proofs.asked.size.Goals as goal

past : {D : Type 0} (g : Ghosts D) (ds : List (Option D)) (d : ℕ) → length ds ≤ d → 0 ≡ size_of g ds d
unfolding device_at
past g [] d h = refl
past g (x ∷ ds) zero h = absurd (omega (arith, h))
past g (x ∷ ds) (suc d) h = past g ds d (omega (arith, h))

pub returns-then-d-devices : goal.returns-then-d-devices
returns-then-d-devices g c = past g.D.Disk c.args.devices.now c.args.d c.if-d-devices.true

pub returns-in-Some : goal.returns-in-Some
returns-in-Some g c = c.sectors.ensures ∙ sym (ap (λ o. option_map_or g.D.Disk.size o 0) (device_at-get c.args.devices.now c.args.d c.index-devices-d.result c.if-d-devices.false ∙ (sym c.index-devices-d.is ∙ c.in-Some.is)))

pub returns-in-None : goal.returns-in-None
returns-in-None g c = sym (ap (λ o. option_map_or g.D.Disk.size o 0) (device_at-get c.args.devices.now c.args.d c.index-devices-d.result c.if-d-devices.false ∙ (sym c.index-devices-d.is ∙ c.in-None.is)))
