use Rattle.std.proofs.Common.{◌∙◌, ap}
use Rattle.eng_clients.specs.Spots.{padded}
use Rattle.eng_clients.proofs.Padded.{padded-none}
use Rattle.eng_clients.proofs.spots.Spots.open.Goals as goal

pub returns : goal.returns
returns c = ap (padded 2048) c.in_ok-list.ensures.items ∙ padded-none 2048
