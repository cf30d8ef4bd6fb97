use Rattle.raid_top.proofs.Drawn.{deaths_are_caused}
use Rattle.raid_top.proofs.laws.what_dies_has_a_cause.Goals as goal

pub returns : goal.returns
returns g c = λ old new. deaths_are_caused _ _
