use Rattle.raid_conf.proofs.Making.{only_memory}
use Rattle.raid_conf.proofs.TableLaws.{conf-makeable}
use Rattle.top_duty.proofs.layouts.layout_of.Goals as goal

pub make-requires : goal.make-requires
make-requires c = conf-makeable c.args.conf.now c.requires.conf

pub memory_of-requires : goal.memory_of-requires
memory_of-requires c =
    let whole = c.requires.rows in
    only_memory c.designs_have_no_fault.ensures c.args.conf.now c.args.rows whole.tables c.in-Err.fault c.requires.conf whole.some whole.within whole.are c.in-Err.ensures.err
