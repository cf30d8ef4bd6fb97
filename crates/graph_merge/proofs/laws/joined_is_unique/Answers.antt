use Rattle.graph_merge.proofs.Unique.{unique}
use Rattle.graph_merge.proofs.laws.joined_is_unique.Goals as goal

pub returns : goal.returns
returns c = unique
