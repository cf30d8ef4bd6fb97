use Rattle.std.proofs.Common.{◌≡◌, ◌++◌, ℕ, List, ap, is_ok, true, false, subst}
use Rattle.std.proofs.lemmas.Result.{err_from_is_err_and}
use Rattle.raid_bay.specs.Sink.{Puts}
use Rattle.raid_bay.specs.SinkLaws.{puts_cut, puts_then}
use Rattle.raid_script.specs.History.{history_text}
use Rattle.raid_script.specs.Replies.{replies_text}
use Rattle.raid_script.specs.Trace.{trace_text}
use Rattle.raid_top.proofs.printing.put_script.Goals as goal

pub returns-in_err-put_replies-clause-output : goal.returns-in_err-put_replies-clause-output
returns-in_err-put_replies-clause-output g c = λ told.
    let p = err_from_is_err_and c.from_residual.result c.from_residual.ensures.1 in
    let s = c.args.service.now in
    let replies = replies_text s.clients.items s.replies.items s.sectors in
    let history = history_text s.history.items in
    let same : replies_text c.deref.result.now c.deref-2.result.now s.sectors ≡ replies = cc (c.deref.ensures.value, c.deref-2.ensures.value) in
    let put = subst (λ (t : List ℕ). Puts false (g.K.Sink.output c.args.out.now) t (g.K.Sink.output c.put_replies.new.out)) same (c.in_err-put_replies.ensures.output told) in
    rw p.1 (puts_cut _ _ (replies ++ history) (trace_text s.trace.items) (puts_cut _ _ replies history put))

pub returns-in_err-put_history-clause-output : goal.returns-in_err-put_history-clause-output
returns-in_err-put_history-clause-output g c = λ told.
    let p = err_from_is_err_and c.from_residual-in_err-put_history.result c.from_residual-in_err-put_history.ensures.1 in
    let s = c.args.service.now in
    let replies = replies_text s.clients.items s.replies.items s.sectors in
    let history = history_text s.history.items in
    let same : replies_text c.deref.result.now c.deref-2.result.now s.sectors ≡ replies = cc (c.deref.ensures.value, c.deref-2.ensures.value) in
    let first = subst (λ (t : List ℕ). Puts true (g.K.Sink.output c.args.out.now) t (g.K.Sink.output c.put_replies.new.out)) same (c.in_ok-put_replies.ensures.output told) in
    let next = subst (λ (t : List ℕ). Puts false (g.K.Sink.output c.put_replies.new.out) t (g.K.Sink.output c.put_history.new.out)) (ap history_text c.deref-3.ensures.value) (c.in_err-put_history.ensures.output told) in
    rw p.1 (puts_cut _ _ (replies ++ history) (trace_text s.trace.items) (puts_then false _ _ _ replies history first next))

pub returns-clause-output : goal.returns-clause-output
returns-clause-output g c = λ told.
    let s = c.args.service.now in
    let replies = replies_text s.clients.items s.replies.items s.sectors in
    let history = history_text s.history.items in
    let same : replies_text c.deref.result.now c.deref-2.result.now s.sectors ≡ replies = cc (c.deref.ensures.value, c.deref-2.ensures.value) in
    let first = subst (λ (t : List ℕ). Puts true (g.K.Sink.output c.args.out.now) t (g.K.Sink.output c.put_replies.new.out)) same (c.in_ok-put_replies.ensures.output told) in
    let next = subst (λ (t : List ℕ). Puts true (g.K.Sink.output c.put_replies.new.out) t (g.K.Sink.output c.put_history.new.out)) (ap history_text c.deref-3.ensures.value) (c.in_ok-put_history.ensures.output told) in
    let last = subst (λ (t : List ℕ). Puts (is_ok c.put_trace.result) (g.K.Sink.output c.put_history.new.out) t (g.K.Sink.output c.put_trace.new.out)) (ap trace_text c.deref-4.ensures.value) (c.put_trace.ensures.output told) in
    puts_then (is_ok c.put_trace.result) _ _ _ (replies ++ history) (trace_text s.trace.items) (puts_then true _ _ _ replies history first next) last
