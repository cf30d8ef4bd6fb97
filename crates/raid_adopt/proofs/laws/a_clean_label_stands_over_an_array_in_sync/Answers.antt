use Rattle.raid_adopt.proofs.Rows.{rest-sync, rows-newest}
use Rattle.raid_adopt.proofs.Stopped.{stopped-sync}
use Rattle.raid_adopt.proofs.laws.a_clean_label_stands_over_an_array_in_sync.Goals as goal

pub returns : goal.returns
returns c = record {
  opening = λ y cols began r start now events image may run is_image each. stopped-sync r began start may events now image run is_image y cols each;
  rows = λ q p present sizes fronts o began r start opened now events writes image c d l round in_range held may run behind rows is_image are opens newest on. rows-newest p present fronts began r start opened now events writes image round in_range held may run behind rows is_image are q sizes o c d l opens newest on;
  closing = λ y cols ended r opened rest now writes events image rows quiet sync may run is_image. stopped-sync r ended rest may events now image run is_image y cols (rest-sync y cols opened rest writes rows quiet sync);
}
