use Rattle.raid_conf.specs.Designs.{blocks_of}
use Rattle.raid_conf.proofs.Judged.{is_the_design, judged}
use Rattle.raid_conf.proofs.designs.is_design.Goals as goal

pub returns-in-Err : goal.returns-in-Err
returns-in-Err c = judged c.designs_have_no_fault.ensures (blocks_of c.args.given.now) c.in-Err.fault c.refusal.result c.in-Err.ensures.err c.refusal.ensures

pub returns : goal.returns
returns c = is_the_design (blocks_of c.args.given.now) (rw c.in-Ok.ensures.design at c.in-Ok.ensures.ok)
