use Rattle.blk_disk.specs.contracts.stop.MemStopDisk.TheImpl as stop
use Rattle.run_tests.proofs.Marks.{one_can}
use Rattle.run_tests.proofs.tests.maps.mark_one.Goals as goal

pub mark_all-requires : goal.mark_all-requires
mark_all-requires c = one_can stop.ghosts c.args.disk c.requires
