use Rattle.eng_one.proofs.Going.{well-fair, goes-on}
use Rattle.eng_one.proofs.alone.alone_goes_on.Goals as goal

pub returns : goal.returns
returns c = λ g t missing acts x y a r. goes-on g t missing a.0 a.1 a.2 y (well-fair g t missing a.0 a.1 a.2 x acts y r)
