use Rattle.std.proofs.Common.{ap, length, length-append, arith}
use Rattle.blk_disk.specs.Stops.{written}
use Rattle.blk_disk.proofs.Stopping.{length_written}
use Rattle.blk_disk.proofs.stop.log_sectors.Goals as goal

pub log_sector-requires-clause-room : goal.log_sector-requires-clause-room
log_sector-requires-clause-room c =
    let e = ap length c.loop-i.invariant.0 in
    omega (arith, e, length-append c.args.logged.now.items (written c.args.first c.args.from.now c.loop-i.i), length_written c.args.first c.args.from.now c.loop-i.i, c.loop-i.invariant.1, c.loop-i-test.true, c.requires.room)
