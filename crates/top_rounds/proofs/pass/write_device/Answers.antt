use Rattle.std.proofs.Common.{arith}
use Rattle.top_rounds.proofs.Devices.{labelling_is, none_there, size_there}
use Rattle.top_rounds.proofs.pass.write_device.Goals as goal

pub write_disk-requires-clause-sized : goal.write_disk-requires-clause-sized
write_disk-requires-clause-sized g c =
    omega (arith, c.requires.sized, size_there g.D.Disk c.args.devices.now c.args.device c.index-devices-device.result c.in-Some.disk c.requires.within c.in-Some.is)

pub unreachable-requires : goal.unreachable-requires
unreachable-requires g c = none_there c.args.devices.now c.args.device c.index-devices-device.result c.requires.within c.in-None.is c.requires.there

pub returns : goal.returns
returns g c =
    labelling_is g.D.Disk c.args.devices.now c.args.device c.args.label.now c.index-devices-device.result c.in-Some.disk c.write_disk.new.disk c.write_disk.result c.requires.within c.in-Some.is
    c.write_disk.ensures.stays c.write_disk.ensures.cause c.write_disk.ensures.held c.write_disk.ensures.told
