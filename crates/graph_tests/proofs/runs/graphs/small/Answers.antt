use Rattle.std.proofs.Common.{subst, sym}
use Rattle.graph_mean.specs.Graph.{Held}
use Rattle.eng_one.specs.Counts.{CanStart}
use Rattle.eng_one.proofs.Starting.{small-starts}
use Rattle.graph_tests.proofs.runs.graphs.small.Goals as goal

pub returns-clause-starts : goal.returns-clause-starts
returns-clause-starts c = subst (λ (h : Held). CanStart h.drawn) (sym c.push_small_end.ensures) small-starts
