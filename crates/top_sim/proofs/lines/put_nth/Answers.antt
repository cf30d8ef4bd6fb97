use Rattle.top_sim.proofs.NumberText.{number_is}
use Rattle.top_sim.proofs.lines.put_nth.Goals as goal

pub returns-clause-output : goal.returns-clause-output
returns-clause-output g c = λ told.
    let is = number_is c.args.requests.now c.args.replies.now c.args.number c.nth_op-op.result
    c.sectors-sectors.result.now c.nth_op-op.ensures c.sectors-sectors.ensures in
    rw is (c.put_reply.ensures.output told)
