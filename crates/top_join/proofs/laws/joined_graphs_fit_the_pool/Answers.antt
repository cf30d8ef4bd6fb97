use Rattle.top_join.proofs.Fitting.{joined_count, joined_small}
use Rattle.top_join.proofs.laws.joined_graphs_fit_the_pool.Goals as goal

pub returns-clause-count : goal.returns-clause-count
returns-clause-count c = joined_count

pub returns-clause-small : goal.returns-clause-small
returns-clause-small c = joined_small
