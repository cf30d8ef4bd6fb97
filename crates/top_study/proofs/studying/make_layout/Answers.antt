use Rattle.raid_conf.proofs.Making.{only_memory}
use Rattle.raid_conf.proofs.TableLaws.{conf-makeable}
use Rattle.top_study.proofs.WholeTables.{whole_tables}
use Rattle.top_study.proofs.studying.make_layout.Goals as goal

pub make-requires : goal.make-requires
make-requires c = conf-makeable c.args.conf.now c.requires.conf

pub memory_of-requires : goal.memory_of-requires
memory_of-requires c =
    let whole = whole_tables c.args.conf.now c.args.rows c.requires.conf c.requires.rows in
    only_memory c.designs_have_no_fault.ensures c.args.conf.now c.args.rows whole.0 c.in-Err.fault c.requires.conf whole.1 whole.2 whole.3 c.in-Err.ensures.err
