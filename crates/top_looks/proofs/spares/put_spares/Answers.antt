use Rattle.std.proofs.Common.{true, false, length, arith}
use Rattle.std.proofs.lemmas.Result.{err_from_is_err_and}
use Rattle.top_open.specs.Opening.{opened_seen}
use Rattle.top_looks.specs.Show.{spare_text}
use Rattle.top_looks.specs.Steps.{spares_text}
use Rattle.top_looks.proofs.LinesFrom.{line_cut, line_first, line_none, line_put}
use Rattle.top_looks.proofs.spares.put_spares.Goals as goal

pub loop-j-init : goal.loop-j-init
unfolding spares_text
loop-j-init g c = record {
  rest = λ told b new puts. line_first (spare_text c.args.conf.now (opened_seen c.args.opened.now) c.args.sizes.now c.args.fronts.now) (length c.args.conf.now.spare_names) b _ new puts;
  later = omega arith;
}

pub returns-in_err-put_spare-clause-output : goal.returns-in_err-put_spare-clause-output
returns-in_err-put_spare-clause-output g c = λ told.
    let p = err_from_is_err_and c.from_residual.result c.from_residual.ensures.1 in
    rw p.1 (c.loop-j.invariant.rest told false _
    (line_cut (spare_text c.args.conf.now (opened_seen c.args.opened.now) c.args.sizes.now c.args.fronts.now) c.loop-j.j (length c.args.conf.now.spare_names) _ _ (omega (arith, c.loop-j-test.true, c.len-j-end.ensures.count))
    (c.in_err-put_spare.ensures.output told)))

pub loop-j-preserved : goal.loop-j-preserved
loop-j-preserved g c = record {
  rest = λ told b new puts. c.loop-j.invariant.rest told b new
      (line_put (spare_text c.args.conf.now (opened_seen c.args.opened.now) c.args.sizes.now c.args.fronts.now) c.loop-j.j (length c.args.conf.now.spare_names) b _ _ new (omega (arith, c.loop-j-test.true, c.len-j-end.ensures.count))
      (c.in_ok-put_spare.ensures.output told) puts);
  later = omega (arith, c.put_spare.ensures.later, c.loop-j.invariant.later);
}

pub returns-clause-output : goal.returns-clause-output
returns-clause-output g c = λ told.
    c.loop-j.invariant.rest told true _
    (line_none (spare_text c.args.conf.now (opened_seen c.args.opened.now) c.args.sizes.now c.args.fronts.now) c.loop-j.j (length c.args.conf.now.spare_names) _ (omega (arith, c.loop-j-test.false, c.len-j-end.ensures.count)))
