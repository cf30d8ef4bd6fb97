use Rattle.std.proofs.Common.{◌≡◌, ℕ, List, is_ok, subst}
use Rattle.std.proofs.lemmas.Result.{err_from_is_err_and}
use Rattle.raid_bay.specs.Sink.{Puts}
use Rattle.raid_bay.specs.SinkLaws.{puts_cut, puts_then}
use Rattle.top_acts.specs.Done.{done_text}
use Rattle.top_status.specs.Status.{ending_text}
use Rattle.raid_top.specs.Words.{status_of_done}
use Rattle.raid_top.proofs.printing.put_act.Goals as goal

pub returns-in_err-put_done-clause-output : goal.returns-in_err-put_done-clause-output
returns-in_err-put_done-clause-output g c = λ told.
    let p = err_from_is_err_and c.from_residual.result c.from_residual.ensures.1 in
    let e = c.args.ending.now in
    rw p.1 (puts_cut _ _ (done_text c.args.act.now) (ending_text e.columns.items (status_of_done c.args.act.now e.lost)) (c.in_err-put_done.ensures.output told))

pub returns-clause-output : goal.returns-clause-output
returns-clause-output g c = λ told.
    let e = c.args.ending.now in
    let same : ending_text c.deref.result.now c.args.status.now ≡ ending_text e.columns.items (status_of_done c.args.act.now e.lost) = cc (c.deref.ensures.value, c.requires.status) in
    let last = subst (λ (t : List ℕ). Puts (is_ok c.put_ending.result) (g.K.Sink.output c.put_done.new.out) t (g.K.Sink.output c.put_ending.new.out)) same (c.put_ending.ensures.output told) in
    puts_then (is_ok c.put_ending.result) _ _ _ (done_text c.args.act.now) (ending_text e.columns.items (status_of_done c.args.act.now e.lost)) (c.in_ok-put_done.ensures.output told) last
