use Rattle.raid_top.proofs.Drawn.{drawn_in_turn}
use Rattle.raid_top.proofs.laws.what_is_drawn_comes_in_turn.Goals as goal

pub returns : goal.returns
returns g c = λ old new. drawn_in_turn _ _
