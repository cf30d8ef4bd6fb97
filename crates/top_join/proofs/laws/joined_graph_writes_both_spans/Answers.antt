use Rattle.top_join.specs.Steps.{graph_at}
use Rattle.top_join.proofs.Both.{accepted, atomic}
use Rattle.top_join.proofs.laws.joined_graph_writes_both_spans.Goals as goal

pub returns-clause-accepted : goal.returns-clause-accepted
returns-clause-accepted c = λ y book clients n join p q a b both missing out law w line alone.
    accepted y clients n (graph_at book join.first) (graph_at book join.second) out p q a b both missing law w line alone

pub returns-clause-atomic : goal.returns-clause-atomic
returns-clause-atomic c = λ y book clients n join p q a b both missing out law w line alone.
    atomic y clients n (graph_at book join.first) (graph_at book join.second) out p q a b both missing law w line alone
