use Rattle.std.proofs.Common.{is_ok}
use Rattle.std.proofs.lemmas.Result.{err_from_is_err_and}
use Rattle.raid_bay.specs.SinkLaws.{puts_cut, puts_then}
use Rattle.top_run.specs.Works.{service_seen}
use Rattle.raid_top.specs.Words.{rebuild_text, script_text}
use Rattle.raid_top.proofs.printing.put_clients.Goals as goal

pub returns-in_err-put_script-clause-output : goal.returns-in_err-put_script-clause-output
returns-in_err-put_script-clause-output g c = λ told.
    let p = err_from_is_err_and c.from_residual.result c.from_residual.ensures.1 in
    let s = c.args.service.now in
    rw p.1 (puts_cut _ _ (script_text (service_seen s)) (rebuild_text s.line) (c.in_err-put_script.ensures.output told))

pub returns-clause-output : goal.returns-clause-output
returns-clause-output g c = λ told.
    let s = c.args.service.now in
    puts_then (is_ok c.put_rebuilt.result) _ _ _ (script_text (service_seen s)) (rebuild_text s.line) (c.in_ok-put_script.ensures.output told) (c.put_rebuilt.ensures.output told)
