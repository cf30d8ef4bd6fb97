use Rattle.std.proofs.Common.{Err, ap, ◌∙◌, refl}
use Rattle.std.proofs.lemmas.Result.{err_from_is_err_and}
use Rattle.graph_mean.specs.Task.{missing_of}
use Rattle.graph_check.proofs.Showing.{err-answers, ok-answers}
use Rattle.graph_check.proofs.chain.judge.Goals as goal

pub returns-in_err-try_all : goal.returns-in_err-try_all
returns-in_err-try_all c =
    let p = err_from_is_err_and c.from_residual.result c.from_residual.ensures.1 in
    let a = err-answers c.args.graph.now.drawn c.args.task.now (missing_of c.args.missing.now) c.width-width.ensures.task c.from_residual.result c.in_err-try_all.field-0.0 (p.1 ∙ ap Err p.2) c.in_err-try_all.ensures.tried in
    record { refused = a.refused; free = a.free; accepted = a.accepted; atomic = a.atomic; shown = a.shown; pieces = c.in_err-try_all.ensures.pieces }

pub returns : goal.returns
returns c =
    let a = ok-answers c.args.graph.now.drawn c.args.task.now (missing_of c.args.missing.now) c.width-width.ensures.task c.in_ok-try_all.ensures.tried in
    record { refused = tt; free = ((λ e. a.free), (λ f. refl)); accepted = ((λ e. a.good), (λ f. refl)); atomic = a.atomic; shown = tt; pieces = c.in_ok-try_all.ensures.pieces }
