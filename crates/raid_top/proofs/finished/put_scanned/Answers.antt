use Rattle.std.proofs.Common.{is_ok}
use Rattle.std.proofs.lemmas.Result.{err_from_is_err_and}
use Rattle.raid_bay.specs.SinkLaws.{puts_cut, puts_then}
use Rattle.top_scan.specs.Lines.{scan_text}
use Rattle.top_status.specs.Status.{status_text}
use Rattle.raid_top.proofs.finished.put_scanned.Goals as goal

pub returns-in_err-put_scan-clause-output : goal.returns-in_err-put_scan-clause-output
returns-in_err-put_scan-clause-output g c = λ told.
    let p = err_from_is_err_and c.from_residual.result c.from_residual.ensures.1 in
    let s = c.args.scanned.now in
    rw p.1 (puts_cut _ _ (scan_text s.names.items s.fronts.items s.sets.sets s.sets.places) (status_text c.args.status.now) (c.in_err-put_scan.ensures.output told))

pub returns-clause-output : goal.returns-clause-output
returns-clause-output g c = λ told.
    let s = c.args.scanned.now in
    puts_then (is_ok c.put_status.result) _ _ _ (scan_text s.names.items s.fronts.items s.sets.sets s.sets.places) (status_text c.args.status.now) (c.in_ok-put_scan.ensures.output told) (c.put_status.ensures.output told)
