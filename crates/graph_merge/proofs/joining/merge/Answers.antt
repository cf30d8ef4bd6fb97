use Rattle.graph_merge.proofs.Accepting.{accepted}
use Rattle.graph_merge.proofs.joining.merge.Goals as goal

pub returns-clause-accepted : goal.returns-clause-accepted
returns-clause-accepted c = λ t u m k pair oka okb. accepted c.args.a.now.drawn c.args.b.now.drawn _ c.args.shift t u m k c.join.ensures.joined pair oka okb
