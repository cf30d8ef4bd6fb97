use Rattle.std.proofs.Common.{List, refl, subst}
use Rattle.blk_disk.specs.contracts.mem.MemDiskDisk.TheImpl as mem
use Rattle.lay_plain.specs.contracts.level_five.Raid5Layout.TheImpl as five
use Rattle.eng_cols.specs.declared.column.Column.{Column}
use Rattle.eng_cols.specs.Lost.{NotLost}
use Rattle.eng_cols.specs.Stripes.{states_of}
use Rattle.crew_tests.proofs.Setups.{paused-ready}
use Rattle.crew_tests.proofs.serves.ready.paused.Goals as goal

pub returns : goal.returns
returns c =
    let y = five.ghosts.shape c.in-Ok.layout in
    paused-ready five.ghosts mem.ghosts _ c.args.first c.args.second c.in-Ok.ensures.made c.in_ok-devices.ensures c.new-2.ensures.items refl c.args.done c.in_ok-columns.ensures.items c.requires.first c.requires.second c.requires.few c.requires.small
    (subst (λ (l : List Column). NotLost y (states_of y l)) c.deref.ensures.value c.in_ok-_judge.ensures.kept)
