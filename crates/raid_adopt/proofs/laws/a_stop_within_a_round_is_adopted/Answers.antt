use Rattle.raid_adopt.proofs.Stopped.{first-before, stopped-before, stopped-blocks, stopped-columns}
use Rattle.raid_adopt.proofs.laws.a_stop_within_a_round_is_adopted.Goals as goal

pub returns : goal.returns
returns c = record {
  columns = λ q p present sizes fronts o began r start now events image c d l plan adopts round in_range held may run is_image are opens newest on label. stopped-columns p present fronts began r start image round in_range held may (first-before r began start now may events image run is_image) are q sizes o plan adopts c d l opens newest on label;
  before = λ began r start now events image may run is_image. stopped-before r began start may events now image run is_image;
  blocks = λ y began cols blocks r start now events image may run is_image each. stopped-blocks r began start may events now image run is_image y cols blocks each;
}
