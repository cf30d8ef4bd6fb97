use Rattle.top_close.proofs.Settles.{none_there, settling_is}
use Rattle.top_close.proofs.settling.settle_device.Goals as goal

pub unreachable-requires : goal.unreachable-requires
unreachable-requires g c = none_there c.args.devices.now c.args.device c.index-devices-device.result c.requires.within c.in-None.is c.requires.there

pub returns : goal.returns
returns g c =
    settling_is g.D.Disk c.args.devices.now c.args.device c.index-devices-device.result c.in-Some.disk c.settle_disk.new.disk c.settle_disk.result c.requires.within c.in-Some.is
    c.settle_disk.ensures.stays c.settle_disk.ensures.cause c.settle_disk.ensures.told
