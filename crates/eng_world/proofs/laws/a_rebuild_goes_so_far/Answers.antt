use Rattle.eng_world.proofs.Far.{goes-far}
use Rattle.eng_world.proofs.laws.a_rebuild_goes_so_far.Goals as goal

pub returns : goal.returns
returns c = λ y graphs opening now events k device count layout promises o r run none all onto some alive front one alike. goes-far y layout graphs promises opening o k events now r run none all device count onto some alive front one alike
