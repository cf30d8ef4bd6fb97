use Rattle.std.proofs.Common.{◌++◌, codes, is_ok, true, false}
use Rattle.std.proofs.lemmas.Result.{err_from_is_err_and}
use Rattle.raid_bay.specs.SinkLaws.{puts_then, puts_cut}
use Rattle.top_scan.specs.Lines.{named_line}
use Rattle.top_scan.proofs.named.put_named.Goals as goal

pub returns-in_err-put-clause-output : goal.returns-in_err-put-clause-output
unfolding named_line
returns-in_err-put-clause-output g c = λ told.
    let p = err_from_is_err_and c.from_residual.result c.from_residual.ensures.1 in
    rw p.1 (puts_cut _ _ (c.args.front.now ++ c.args.name.now) (codes "\n") (puts_cut _ _ c.args.front.now c.args.name.now (c.in_err-put.ensures.output told)))

pub returns-in_err-put-2-clause-output : goal.returns-in_err-put-2-clause-output
unfolding named_line
returns-in_err-put-2-clause-output g c = λ told.
    let p = err_from_is_err_and c.from_residual-in_err-put-2.result c.from_residual-in_err-put-2.ensures.1 in
    rw p.1 (puts_cut _ _ (c.args.front.now ++ c.args.name.now) (codes "\n")
    (puts_then false _ _ _ c.args.front.now c.args.name.now (c.in_ok-put.ensures.output told) (rw c.as_bytes.ensures.value at (c.in_err-put-2.ensures.output told))))

pub returns-clause-output : goal.returns-clause-output
unfolding named_line
returns-clause-output g c = λ told.
    puts_then (is_ok c.put-3.result) _ _ _ (c.args.front.now ++ c.args.name.now) (codes "\n")
    (puts_then true _ _ _ c.args.front.now c.args.name.now (c.in_ok-put.ensures.output told) (rw c.as_bytes.ensures.value at (c.in_ok-put-2.ensures.output told)))
    (c.put-3.ensures.output told)
