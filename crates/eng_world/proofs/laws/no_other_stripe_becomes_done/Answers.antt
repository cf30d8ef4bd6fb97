use Rattle.eng_world.proofs.OnlyAsked.{only-asked}
use Rattle.eng_world.proofs.laws.no_other_stripe_becomes_done.Goals as goal

pub returns : goal.returns
returns c = λ y graphs opening now events run. only-asked y graphs opening now events run
