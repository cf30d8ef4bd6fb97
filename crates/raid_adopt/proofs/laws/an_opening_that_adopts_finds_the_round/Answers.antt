use Rattle.raid_adopt.proofs.Reopening.{finds}
use Rattle.raid_adopt.proofs.laws.an_opening_that_adopts_finds_the_round.Goals as goal

pub returns : goal.returns
returns c = λ q p present sizes fronts o began l plan adopts opens newest round have. finds q p present sizes fronts plan adopts began l round have o opens newest
