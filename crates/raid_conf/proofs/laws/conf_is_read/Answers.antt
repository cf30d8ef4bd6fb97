use Rattle.raid_conf.proofs.ReadConf.{conf_read}
use Rattle.raid_conf.proofs.laws.conf_is_read.Goals as goal

pub returns : goal.returns
returns c = conf_read
