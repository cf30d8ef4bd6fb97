use Rattle.lay_decluster.proofs.ByUnits.{spared_by_units}
use Rattle.lay_decluster.proofs.laws.spare_places_lie_by_units.Goals as goal

pub returns : goal.returns
returns c = spared_by_units
