use Rattle.std.proofs.Common.{is_ok}
use Rattle.std.proofs.lemmas.Result.{err_from_is_err_and}
use Rattle.raid_bay.specs.Sink.{Puts}
use Rattle.raid_bay.specs.SinkLaws.{puts_cut, puts_then}
use Rattle.std.proofs.Common.{false, subst, true}
use Rattle.top_open.specs.Opening.{opened_seen}
use Rattle.top_status.specs.Status.{status_text}
use Rattle.top_words.specs.Asked.{Profile}
use Rattle.top_words.specs.Views.{action_seen}
use Rattle.raid_top.specs.Shown.{shown_text}
use Rattle.raid_top.specs.Views.{shown_of}
use Rattle.raid_top.proofs.printing.put_shown.Goals as goal

pub returns-in_err-put_looked-clause-output : goal.returns-in_err-put_looked-clause-output
returns-in_err-put_looked-clause-output g c = λ told.
    let p = err_from_is_err_and c.from_residual.result c.from_residual.ensures.1 in
    let s = c.args.shown.now in
    let put = subst (λ (x : Profile). Puts false (g.K.Sink.output c.args.out.now) (shown_text x.map c.args.conf.now (opened_seen s.opened) s.sizes.items s.fronts.items s.map) (g.K.Sink.output c.put_looked.new.out))
    c.profile.ensures (c.in_err-put_looked.ensures.output told) in
    rw p.1 (puts_cut _ _ (shown_of (action_seen c.args.action) c.args.conf.now s) (status_text c.args.status.now) put)

pub returns-clause-output : goal.returns-clause-output
returns-clause-output g c = λ told.
    let s = c.args.shown.now in
    let put = subst (λ (x : Profile). Puts true (g.K.Sink.output c.args.out.now) (shown_text x.map c.args.conf.now (opened_seen s.opened) s.sizes.items s.fronts.items s.map) (g.K.Sink.output c.put_looked.new.out))
    c.profile.ensures (c.in_ok-put_looked.ensures.output told) in
    puts_then (is_ok c.put_status.result) _ _ _ (shown_of (action_seen c.args.action) c.args.conf.now s) (status_text c.args.status.now) put (c.put_status.ensures.output told)
