use Rattle.std.proofs.Common.{refl, ◌∙◌}
use Rattle.blk_disk.specs.contracts.mem.MemDiskDisk.TheImpl as mem
use Rattle.lay_plain.specs.contracts.level_five.Raid5Layout.TheImpl as five
use Rattle.crew_tests.proofs.Setups.{live-ready}
use Rattle.crew_tests.proofs.TwoColumns.{two-asked, two-can-run, two-rebuilds}
use Rattle.crew_tests.proofs.labelled.ready.two_columns.Goals as goal

pub returns : goal.returns
returns c =
    two-can-run five.ghosts mem.ghosts _ c.deref-2.result.now
    (live-ready five.ghosts mem.ghosts _ c.args.first c.args.second c.in-Ok.ensures.made c.in_ok-devices.ensures c.new-2.ensures.items refl c.in_ok-columns.ensures.items c.requires.first c.requires.second c.requires.few c.requires.small)
    c.in-Ok.ensures.made c.in_ok-columns.ensures.items c.deref-2.ensures.value c.in_ok-judge.ensures.kept c.label-label.ensures.held c.label-label.ensures.columns c.label-label.ensures.counter c.in_ok-judge.ensures.judge c.in-Ok-open.ensures
    (two-asked five.ghosts mem.ghosts _ c.args.start c.requires.start
    (λ most. two-rebuilds five.ghosts mem.ghosts _ most c.args.first c.args.second c.deref.result.now c.in-Ok.ensures.made c.in_ok-columns.ensures.items c.in_ok-devices.ensures c.requires.second refl (c.deref.ensures.value ∙ c.in_ok-dead.ensures.items) c.in_ok-_alone.ensures.kept))
