use Rattle.std.proofs.lemmas.List.{get_or-replicate}
use Rattle.std.proofs.Common.{refl}
use Rattle.blk_plain.specs.Plain.{zero_sector}
use Rattle.eng_log.proofs.fill.zeros.Goals as goal

pub returns-clause-bytes : goal.returns-clause-bytes
returns-clause-bytes c = λ k below. get_or-replicate 512 k 0 0 below

pub returns-clause-sector : goal.returns-clause-sector
unfolding zero_sector
returns-clause-sector c = refl
