use Rattle.blk_plain.specs.Plain.{zero_sector}
use Rattle.eng_log.proofs.fill.fill_zeros.Goals as goal

pub returns : goal.returns
unfolding zero_sector
returns c = c.set_all.ensures
