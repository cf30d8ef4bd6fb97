use Rattle.std.proofs.Common.{arith, sym, subst}
use Rattle.raid_map.specs.Reading.{AddsRead}
use Rattle.raid_map.proofs.MarkOne.{none_sized, sized_there}
use Rattle.raid_map.proofs.ReadOne.{reading_is, sector_there}
use Rattle.raid_map.proofs.reading.read_device.Goals as goal

pub read_disk-requires-clause-sized : goal.read_disk-requires-clause-sized
read_disk-requires-clause-sized g c =
    omega (arith, c.requires.sized, sized_there g.D.Disk c.args.devices.now c.args.device c.index-devices-device.result c.in-Some.disk c.requires.within c.in-Some.is)

pub unreachable-requires : goal.unreachable-requires
unreachable-requires g c = none_sized g.D.Disk c.args.devices.now c.args.device c.index-devices-device.result c.requires.within c.in-None.is c.requires.sized

pub returns-clause-reading : goal.returns-clause-reading
returns-clause-reading g c =
    reading_is g.D.Disk c.args.devices.now c.args.device c.index-devices-device.result c.in-Some.disk c.read_disk.new.disk _ c.requires.within c.in-Some.is
    c.read_disk.ensures.stays c.read_disk.ensures.cause c.read_disk.ensures.told

pub returns-clause-adds : goal.returns-clause-adds
returns-clause-adds g c =
    subst (λ l. AddsRead g.D.Disk.tells c.args.map.now c.read_disk.new.map l c.read_disk.result) (sym (sector_there g.D.Disk c.args.devices.now c.args.device c.index-devices-device.result c.in-Some.disk c.requires.within c.in-Some.is)) c.read_disk.ensures.adds
