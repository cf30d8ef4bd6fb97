use Rattle.std.proofs.Common.{arith}
use Rattle.raid_map.proofs.MarkOne.{marking_is, none_sized, sized_there}
use Rattle.raid_map.proofs.marking.mark_device.Goals as goal

pub mark_disk-requires-clause-sized : goal.mark_disk-requires-clause-sized
mark_disk-requires-clause-sized g c =
    omega (arith, c.requires.sized, sized_there g.D.Disk c.args.devices.now c.args.device c.index-devices-device.result c.in-Some.disk c.requires.within c.in-Some.is)

pub unreachable-requires : goal.unreachable-requires
unreachable-requires g c = none_sized g.D.Disk c.args.devices.now c.args.device c.index-devices-device.result c.requires.within c.in-None.is c.requires.sized

pub returns : goal.returns
returns g c =
    marking_is g.D.Disk c.args.devices.now c.args.device c.args.sector.now c.index-devices-device.result c.in-Some.disk c.mark_disk.new.disk c.mark_disk.result c.requires.within c.in-Some.is
    c.mark_disk.ensures.stays c.mark_disk.ensures.cause c.mark_disk.ensures.safe c.mark_disk.ensures.told
