use Rattle.raid_adopt.proofs.Columns.{is-round}
use Rattle.raid_adopt.proofs.laws.columns_of_an_opening_are_those_of_a_round.Goals as goal

pub returns : goal.returns
returns c = λ q p present sizes fronts o l r opens newest few seating. is-round q p present sizes fronts o l opens newest r few seating
