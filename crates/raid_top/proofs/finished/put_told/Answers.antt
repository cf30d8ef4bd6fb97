use Rattle.std.proofs.Common.{is_ok}
use Rattle.std.proofs.lemmas.Result.{err_from_is_err_and}
use Rattle.raid_bay.specs.SinkLaws.{puts_cut, puts_then}
use Rattle.top_status.specs.Status.{status_text}
use Rattle.top_study.specs.Views.{studied_text}
use Rattle.raid_top.proofs.finished.put_told.Goals as goal

pub returns-in_err-put_studied-clause-output : goal.returns-in_err-put_studied-clause-output
returns-in_err-put_studied-clause-output g c = λ told.
    let p = err_from_is_err_and c.from_residual.result c.from_residual.ensures.1 in
    rw p.1 (puts_cut _ _ (studied_text c.args.studied.now) (status_text c.args.status.now) (c.in_err-put_studied.ensures.output told))

pub returns-clause-output : goal.returns-clause-output
returns-clause-output g c = λ told.
    puts_then (is_ok c.put_status.result) _ _ _ (studied_text c.args.studied.now) (status_text c.args.status.now) (c.in_ok-put_studied.ensures.output told) (c.put_status.ensures.output told)
