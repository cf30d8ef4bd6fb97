use Rattle.top_join.proofs.OneEnd.{one_end}
use Rattle.top_join.proofs.laws.joining_has_one_end.Goals as goal

pub returns : goal.returns
returns c = one_end
