use Rattle.raid_conf.proofs.FormConf.{conf_of_form}
use Rattle.raid_conf.proofs.laws.conf_is_of_the_form.Goals as goal

pub returns : goal.returns
returns c = conf_of_form
