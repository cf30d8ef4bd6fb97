use Rattle.run_effect.proofs.Printed.{printed_read}
use Rattle.run_effect.proofs.a_printed_script_is_read.Goals as goal

pub returns : goal.returns
returns c = printed_read
