use Rattle.raid_conf.proofs.ByUnits.{spares_by_units}
use Rattle.raid_conf.proofs.laws.spare_places_lie_by_units.Goals as goal

pub returns : goal.returns
returns c = spares_by_units
