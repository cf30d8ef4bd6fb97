use Rattle.std.proofs.Common.{◌≡◌, ℕ, List, is_ok, subst}
use Rattle.std.proofs.lemmas.Result.{err_from_is_err_and}
use Rattle.raid_bay.specs.Sink.{Puts}
use Rattle.raid_bay.specs.SinkLaws.{puts_cut, puts_then}
use Rattle.top_run.specs.Works.{service_seen}
use Rattle.top_status.specs.Status.{ending_text, status_of_loss}
use Rattle.top_words.specs.Asked.{profile_of}
use Rattle.top_words.specs.Views.{action_seen}
use Rattle.raid_top.specs.Words.{run_text}
use Rattle.raid_top.proofs.printing.put_run.Goals as goal

pub returns-in_err-put_service-clause-output : goal.returns-in_err-put_service-clause-output
returns-in_err-put_service-clause-output g c = λ told.
    let p = err_from_is_err_and c.from_residual.result c.from_residual.ensures.1 in
    let s = c.args.service.now in
    rw p.1 (puts_cut _ _ (run_text (profile_of (action_seen c.args.action)).drawn (service_seen s)) (ending_text s.columns.items (status_of_loss s.lost)) (c.in_err-put_service.ensures.output told))

pub returns-clause-output : goal.returns-clause-output
returns-clause-output g c = λ told.
    let s = c.args.service.now in
    let same : ending_text c.deref.result.now c.args.status.now ≡ ending_text s.columns.items (status_of_loss s.lost) = cc (c.deref.ensures.value, c.requires.status) in
    let last = subst (λ (t : List ℕ). Puts (is_ok c.put_ending.result) (g.K.Sink.output c.put_service.new.out) t (g.K.Sink.output c.put_ending.new.out)) same (c.put_ending.ensures.output told) in
    puts_then (is_ok c.put_ending.result) _ _ _ (run_text (profile_of (action_seen c.args.action)).drawn (service_seen s)) (ending_text s.columns.items (status_of_loss s.lost)) (c.in_ok-put_service.ensures.output told) last
