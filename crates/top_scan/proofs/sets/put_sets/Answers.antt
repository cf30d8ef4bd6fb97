use Rattle.std.proofs.Common.{true, false, length, arith}
use Rattle.std.proofs.lemmas.Result.{err_from_is_err_and}
use Rattle.top_scan.specs.Lines.{set_text}
use Rattle.top_scan.proofs.Printed.{put_first, put_more, put_none, put_short}
use Rattle.top_scan.proofs.sets.put_sets.Goals as goal

pub loop-set-init : goal.loop-set-init
loop-set-init g c = record {
  rest = λ told b new puts. put_first (set_text c.args.names.now c.args.places.now c.args.sets.now) (length c.args.sets.now) b _ new puts;
  later = omega arith;
}

pub returns-in_err-put_set-clause-output : goal.returns-in_err-put_set-clause-output
returns-in_err-put_set-clause-output g c = λ told.
    let p = err_from_is_err_and c.from_residual.result c.from_residual.ensures.1 in
    rw p.1 (c.loop-set.invariant.rest told false _
    (put_short (set_text c.args.names.now c.args.places.now c.args.sets.now) c.loop-set.set (length c.args.sets.now) _ _ c.loop-set-test.true (c.in_err-put_set.ensures.output told)))

pub loop-set-preserved : goal.loop-set-preserved
loop-set-preserved g c = record {
  rest = λ told b new puts. c.loop-set.invariant.rest told b new
      (put_more (set_text c.args.names.now c.args.places.now c.args.sets.now) c.loop-set.set (length c.args.sets.now) b _ _ new c.loop-set-test.true (c.in_ok-put_set.ensures.output told) puts);
  later = omega (arith, c.put_set.ensures.later, c.loop-set.invariant.later);
}

pub returns-clause-output : goal.returns-clause-output
returns-clause-output g c = λ told.
    c.loop-set.invariant.rest told true _ (put_none (set_text c.args.names.now c.args.places.now c.args.sets.now) c.loop-set.set (length c.args.sets.now) _ (omega arith))
