use Rattle.graph_merge.proofs.Small.{joined_within}
use Rattle.graph_merge.proofs.laws.joined_is_small.Goals as goal

pub returns : goal.returns
returns c = joined_within
