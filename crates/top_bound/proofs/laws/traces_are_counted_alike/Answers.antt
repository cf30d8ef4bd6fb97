use Rattle.top_bound.proofs.Counted.{traced-alike}
use Rattle.top_bound.proofs.laws.traces_are_counted_alike.Goals as goal

pub returns : goal.returns
returns c = traced-alike
