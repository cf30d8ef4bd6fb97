use Rattle.raid_adopt.proofs.Adopted.{adopted}
use Rattle.raid_adopt.proofs.laws.an_array_that_was_opened_and_stopped_is_adopted.Goals as goal

pub returns : goal.returns
returns c = λ p present first q sizes later read fronts old o l k counter clean start now events image col dev plan few opens newest newer settled reads in_range held run is_image are adopts again newest_again on label. adopted p present plan few first sizes read old l opens newest counter clean newer start settled reads q later fronts o k now events image col dev in_range held run is_image are adopts again newest_again on label
