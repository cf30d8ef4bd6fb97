use Rattle.std.proofs.Common.{true, false, length, arith}
use Rattle.std.proofs.lemmas.Result.{err_from_is_err_and}
use Rattle.top_scan.specs.Lines.{other_text}
use Rattle.top_scan.proofs.Printed.{put_first, put_more, put_none, put_short}
use Rattle.top_scan.proofs.sets.put_others.Goals as goal

pub loop-place-init : goal.loop-place-init
loop-place-init g c = record {
  rest = λ told b new puts. put_first (other_text c.args.names.now c.args.places.now c.args.set) (length c.args.places.now) b _ new puts;
  later = omega arith;
}

pub returns-in_err-put_other-clause-output : goal.returns-in_err-put_other-clause-output
returns-in_err-put_other-clause-output g c = λ told.
    let p = err_from_is_err_and c.from_residual.result c.from_residual.ensures.1 in
    rw p.1 (c.loop-place.invariant.rest told false _
    (put_short (other_text c.args.names.now c.args.places.now c.args.set) c.loop-place.place (length c.args.places.now) _ _ c.loop-place-test.true (c.in_err-put_other.ensures.output told)))

pub loop-place-preserved : goal.loop-place-preserved
loop-place-preserved g c = record {
  rest = λ told b new puts. c.loop-place.invariant.rest told b new
      (put_more (other_text c.args.names.now c.args.places.now c.args.set) c.loop-place.place (length c.args.places.now) b _ _ new c.loop-place-test.true (c.in_ok-put_other.ensures.output told) puts);
  later = omega (arith, c.put_other.ensures.later, c.loop-place.invariant.later);
}

pub returns-clause-output : goal.returns-clause-output
returns-clause-output g c = λ told.
    c.loop-place.invariant.rest told true _ (put_none (other_text c.args.names.now c.args.places.now c.args.set) c.loop-place.place (length c.args.places.now) _ (omega arith))
