use Rattle.raid_map.proofs.Unions.{region-within, added-marks, kept-marks}
use Rattle.raid_map.proofs.laws.a_union_has_what_its_maps_mark.Goals as goal

pub returns : goal.returns
returns c = record {
  region = λ stripes s h. region-within stripes s h;
  added = λ old new sector marks r adds map within h. added-marks old new sector marks r adds map within h;
  kept = λ old new sector r adds within h. kept-marks old new sector r adds within h;
}
