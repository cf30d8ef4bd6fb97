use Rattle.std.proofs.Common.{is_ok}
use Rattle.std.proofs.lemmas.Result.{err_from_is_err_and}
use Rattle.raid_bay.specs.SinkLaws.{puts_cut, puts_then}
use Rattle.top_sim.specs.Lines.{sim_text}
use Rattle.top_status.specs.Status.{status_text}
use Rattle.raid_top.proofs.finished.put_served.Goals as goal

pub returns-in_err-put_simulated-clause-output : goal.returns-in_err-put_simulated-clause-output
returns-in_err-put_simulated-clause-output g c = λ told.
    let p = err_from_is_err_and c.from_residual.result c.from_residual.ensures.1 in
    let s = c.args.simulated.now in
    rw p.1 (puts_cut _ _ (sim_text s.requests.items s.services.items s.replies) (status_text c.args.status.now) (c.in_err-put_simulated.ensures.output told))

pub returns-clause-output : goal.returns-clause-output
returns-clause-output g c = λ told.
    let s = c.args.simulated.now in
    puts_then (is_ok c.put_status.result) _ _ _ (sim_text s.requests.items s.services.items s.replies) (status_text c.args.status.now) (c.in_ok-put_simulated.ensures.output told) (c.put_status.ensures.output told)
