use Rattle.top_looks.proofs.OwnOrSpare.{own_or_spare}
use Rattle.top_looks.proofs.laws.devices_are_own_or_spares.Goals as goal

pub returns : goal.returns
returns c = own_or_spare
