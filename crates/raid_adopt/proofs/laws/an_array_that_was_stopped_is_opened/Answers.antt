use Rattle.raid_adopt.proofs.Opening.{is-opened}
use Rattle.raid_adopt.proofs.laws.an_array_that_was_stopped_is_opened.Goals as goal

pub returns : goal.returns
returns c = λ q p present sizes fronts began l plan alone round have large labelled newest shape counter. is-opened q p present sizes fronts plan alone began l round have large labelled newest shape counter
