use Rattle.eng_one.proofs.Effect.{alone-effect}
use Rattle.eng_one.proofs.alone.alone_has_its_effect.Goals as goal

pub returns : goal.returns
returns c = λ g t missing old new acts x y whole a step st r good over. alone-effect g t missing whole old new acts x y a step st r good over
