use Rattle.raid_conf.proofs.CanonicalText.{printed_again}
use Rattle.raid_conf.proofs.laws.conf_text_is_printed_again.Goals as goal

pub returns : goal.returns
returns c = printed_again
