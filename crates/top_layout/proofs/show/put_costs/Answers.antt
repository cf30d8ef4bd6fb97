use Rattle.std.proofs.Common.{is_ok}
use Rattle.std.proofs.lemmas.Result.{err_from_is_err_and}
use Rattle.raid_bay.specs.SinkLaws.{puts_cut, puts_then}
use Rattle.top_layout.specs.Lines.{degraded_line, writes_text}
use Rattle.top_layout.proofs.show.put_costs.Goals as goal

pub returns-in_err-put_writes-clause-output : goal.returns-in_err-put_writes-clause-output
returns-in_err-put_writes-clause-output g c = λ told.
    let p = err_from_is_err_and c.from_residual.result c.from_residual.ensures.1 in
    rw p.1 (puts_cut _ _ (writes_text (g.L.Layout.shape c.args.layout.now)) (degraded_line (g.L.Layout.shape c.args.layout.now)) (c.in_err-put_writes.ensures.output told))

pub returns-clause-output : goal.returns-clause-output
returns-clause-output g c = λ told.
    puts_then (is_ok c.put_degraded.result) _ _ _ (writes_text (g.L.Layout.shape c.args.layout.now)) (degraded_line (g.L.Layout.shape c.args.layout.now)) (c.in_ok-put_writes.ensures.output told) (c.put_degraded.ensures.output told)
