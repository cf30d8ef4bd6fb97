use Rattle.raid_top.proofs.LostRefused.{loss_lacks_units}
use Rattle.raid_top.proofs.laws.a_refused_loss_lacks_two_units.Goals as goal

pub returns : goal.returns
returns g c = λ old new out_old out_new words answer. loss_lacks_units _ _ _ _ _ _ _ _
