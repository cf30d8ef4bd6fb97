use Rattle.eng_one.proofs.Starting.{can-start}
use Rattle.eng_one.proofs.laws.free_graph_can_start.Goals as goal

pub returns : goal.returns
returns c = can-start
