use Rattle.graph_merge.proofs.Accepting.{accepted, free, atomic}
use Rattle.graph_merge.proofs.laws.joined_is_accepted.Goals as goal

pub returns-clause-accepted : goal.returns-clause-accepted
returns-clause-accepted c = accepted

pub returns-clause-free : goal.returns-clause-free
returns-clause-free c = free

pub returns-clause-atomic : goal.returns-clause-atomic
returns-clause-atomic c = atomic
