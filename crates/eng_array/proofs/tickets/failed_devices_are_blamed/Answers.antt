use Rattle.eng_array.proofs.ChainBlames.{blamed-in}
use Rattle.eng_array.proofs.tickets.failed_devices_are_blamed.Goals as goal

pub returns : goal.returns
returns g c = λ old new events w x d h s t before after. blamed-in g.L.Layout g.D.Disk old new events h w x s t d before after
