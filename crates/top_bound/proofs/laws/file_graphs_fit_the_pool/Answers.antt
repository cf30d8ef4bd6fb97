use Rattle.top_bound.proofs.Limits.{graphs-fit}
use Rattle.top_bound.proofs.laws.file_graphs_fit_the_pool.Goals as goal

pub returns : goal.returns
returns c = graphs-fit
