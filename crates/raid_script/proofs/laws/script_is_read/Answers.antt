use Rattle.raid_script.proofs.ScriptRead.{script_read}
use Rattle.raid_script.proofs.laws.script_is_read.Goals as goal

pub returns : goal.returns
returns c = script_read
