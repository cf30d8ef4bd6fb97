use Rattle.std.proofs.Common.{◌≡◌, ◌∙◌, ◌+◌, ◌/◌, ◌<◌, ◌≤◌, ℕ, is_ok, Some, OnOk, subst, arith}
use Rattle.blk_disk.specs.Disk.{Tells, call_of, sector_at}
use Rattle.blk_disk.specs.Devices.{device_at}
use Rattle.blk_disk.proofs.DeviceLaws.{device_at-get}
use Rattle.raid_recon.proofs.OneCall.{size_none, size_some, written_is}
use Rattle.raid_recon.proofs.devices.write_at.Goals as goal

pub write-requires-clause-inside : goal.write-requires-clause-inside
write-requires-clause-inside g c =
    let was : device_at c.args.devices.now c.args.at.device ≡ Some c.in-Some.disk = device_at-get c.args.devices.now c.args.at.device c.index-devices-at.result c.requires.there ∙ c.in-Some.is in
    omega (arith, c.first_sector.ensures, c.requires.long, c.requires.fits, size_some g.D.Disk c.args.devices.now c.args.at.device c.in-Some.disk was)

pub unreachable-requires : goal.unreachable-requires
unreachable-requires g c = size_none g.D.Disk c.args.devices.now c.args.at.device (device_at-get c.args.devices.now c.args.at.device c.index-devices-at.result c.requires.there ∙ c.in-None.is) (omega (arith, c.requires.fits))

pub returns : goal.returns
returns g c =
    let D = g.D.Disk in
    let was : device_at c.args.devices.now c.args.at.device ≡ Some c.in-Some.disk = device_at-get c.args.devices.now c.args.at.device c.index-devices-at.result c.requires.there ∙ c.in-Some.is in
    let call = c.write.ensures in
    written_is D c.args.devices.now c.args.at c.args.unit_sectors c.first_sector.result c.in-Some.disk c.write.new.self c.requires.there was c.first_sector.ensures (omega (arith, c.ranges.unit_sectors)) call.size call.later
    c.args.from.now c.write.result call.cause call.before
    (subst (λ n. D.tells → (s : ℕ) → c.first_sector.result + n / 512 ≤ s → D.sector c.write.new.self s ≡ D.sector c.in-Some.disk s) c.requires.long call.behind)
    (subst (λ n. OnOk c.write.result (D.tells → (k : ℕ) → k < n / 512 → D.sector c.write.new.self (c.first_sector.result + k) ≡ sector_at c.args.from.now k)) c.requires.long call.bytes)
    (subst (λ n. Tells (D.calls c.in-Some.disk) (D.calls c.write.new.self) (call_of 1 c.first_sector.result n (is_ok c.write.result))) c.requires.long call.told)
