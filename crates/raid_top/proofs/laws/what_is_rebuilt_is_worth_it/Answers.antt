use Rattle.raid_top.proofs.Drawn.{rebuilt_is_worth}
use Rattle.raid_top.proofs.laws.what_is_rebuilt_is_worth_it.Goals as goal

pub returns : goal.returns
returns g c = λ old new. rebuilt_is_worth _ _
