use Rattle.lay_design.proofs.NoFault.{no_fault}
use Rattle.lay_design.proofs.laws.designs_have_no_fault.Goals as goal

pub returns : goal.returns
returns c = no_fault
