use Rattle.std.proofs.Common.{◌≡◌, ◌∙◌, ◌*◌, length, Some, arith}
use Rattle.blk_disk.specs.Devices.{device_at}
use Rattle.blk_disk.proofs.DeviceLaws.{device_at-get}
use Rattle.raid_recon.proofs.OneCall.{size_none, size_some, read_is}
use Rattle.raid_recon.proofs.devices.read_at.Goals as goal

pub read-requires-clause-inside : goal.read-requires-clause-inside
read-requires-clause-inside g c =
    let was : device_at c.args.devices.now c.args.at.device ≡ Some c.in-Some.disk = device_at-get c.args.devices.now c.args.at.device c.index-devices-at.result c.requires.there ∙ c.in-Some.is in
    omega (arith, c.first_sector.ensures, c.requires.long, c.requires.fits, size_some g.D.Disk c.args.devices.now c.args.at.device c.in-Some.disk was)

pub unreachable-requires : goal.unreachable-requires
unreachable-requires g c = size_none g.D.Disk c.args.devices.now c.args.at.device (device_at-get c.args.devices.now c.args.at.device c.index-devices-at.result c.requires.there ∙ c.in-None.is) (omega (arith, c.requires.fits))

pub returns-clause-read : goal.returns-clause-read
returns-clause-read g c =
    let D = g.D.Disk in
    let was : device_at c.args.devices.now c.args.at.device ≡ Some c.in-Some.disk = device_at-get c.args.devices.now c.args.at.device c.index-devices-at.result c.requires.there ∙ c.in-Some.is in
    let call = c.read.ensures in
    read_is D c.args.devices.now c.args.at c.args.unit_sectors c.first_sector.result c.in-Some.disk c.read.new.self c.requires.there was c.first_sector.ensures (omega (arith, c.ranges.unit_sectors)) call.size call.later
    (c.args.rows * c.args.unit_sectors) (length c.args.into.now) c.requires.long (omega (arith, c.requires.few))
    c.read.new.into c.read.result call.cause call.same call.bytes call.told
