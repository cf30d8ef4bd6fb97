use Rattle.raid_top.proofs.Consequences.{right_is_answered}
use Rattle.raid_top.proofs.laws.what_is_right_is_answered.Goals as goal

pub returns : goal.returns
returns g c = λ old new out_old out_new words answer. right_is_answered _ _ _ _ _ _ _ _
