use Rattle.raid_script.proofs.ScriptForm.{script_of_form}
use Rattle.raid_script.proofs.laws.script_is_of_the_form.Goals as goal

pub returns : goal.returns
returns c = script_of_form
