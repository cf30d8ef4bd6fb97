use Rattle.std.proofs.Common.{refl}
use Rattle.blk_disk.specs.contracts.mem.MemDiskDisk.TheImpl as mem
use Rattle.lay_plain.specs.contracts.level_five.Raid5Layout.TheImpl as five
use Rattle.crew_tests.proofs.Losing.{three-can-run}
use Rattle.crew_tests.proofs.labelled.ready.losing.Goals as goal

pub returns : goal.returns
returns c =
    three-can-run five.ghosts mem.ghosts _ c.args.first c.args.second c.args.third c.in_ok-items.items c.deref.result.now
    c.in-Ok.ensures.made c.in_ok-columns.ensures.items c.in_ok-devices.ensures c.requires.first c.requires.second c.requires.third c.in_ok-items.ensures c.in_ok-clients.ensures.items c.new-2.ensures.items refl
    c.deref.ensures.value c.in_ok-judge.ensures.kept c.label-label.ensures.held c.label-label.ensures.columns c.label-label.ensures.counter c.in_ok-judge.ensures.judge c.in-Ok-open.ensures refl
