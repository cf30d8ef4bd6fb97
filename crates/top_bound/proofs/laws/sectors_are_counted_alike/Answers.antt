use Rattle.top_bound.proofs.Limits.{sectors-alike}
use Rattle.top_bound.proofs.laws.sectors_are_counted_alike.Goals as goal

pub returns : goal.returns
returns c = sectors-alike
