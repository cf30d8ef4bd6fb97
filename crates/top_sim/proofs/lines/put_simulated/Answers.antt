use Rattle.std.proofs.Common.{flat_map, is_ok}
use Rattle.std.proofs.lemmas.Result.{err_from_is_err_and}
use Rattle.raid_bay.specs.SinkLaws.{puts_then, puts_cut}
use Rattle.top_sim.specs.Steps.{replies_text, served_line}
use Rattle.top_sim.proofs.lines.put_simulated.Goals as goal

pub returns-in_err-put_services-clause-output : goal.returns-in_err-put_services-clause-output
unfolding served_line
returns-in_err-put_services-clause-output g c = λ told.
    let p = err_from_is_err_and c.from_residual.result c.from_residual.ensures.1 in
    let simulated = c.args.simulated.now in
    rw p.1 (puts_cut _ _ (flat_map served_line simulated.services.items)
    (replies_text simulated.requests.items simulated.replies)
    (rw c.as_slice-services.ensures.value at (c.in_err-put_services.ensures.output told)))

pub returns-clause-output : goal.returns-clause-output
unfolding served_line
returns-clause-output g c = λ told.
    let simulated = c.args.simulated.now in
    puts_then (is_ok c.put_replies.result) _ _ _ (flat_map served_line simulated.services.items)
    (replies_text simulated.requests.items simulated.replies)
    (rw c.as_slice-services.ensures.value at (c.in_ok-put_services.ensures.output told))
    (rw c.as_slice-requests.ensures.value at (c.put_replies.ensures.output told))
