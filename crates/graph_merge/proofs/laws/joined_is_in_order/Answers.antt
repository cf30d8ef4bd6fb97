use Rattle.graph_merge.proofs.Accepting.{in_order}
use Rattle.graph_merge.proofs.laws.joined_is_in_order.Goals as goal

pub returns : goal.returns
returns c = in_order
