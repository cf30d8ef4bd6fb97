use Rattle.raid_conf.proofs.CanonicalText.{conf_text_read}
use Rattle.raid_conf.proofs.laws.conf_text_is_read.Goals as goal

pub returns : goal.returns
returns c = conf_text_read
