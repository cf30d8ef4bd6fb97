use Rattle.std.proofs.Common.{true, false, length, arith}
use Rattle.std.proofs.lemmas.Result.{err_from_is_err_and}
use Rattle.top_scan.specs.Lines.{bare_text}
use Rattle.top_scan.proofs.Printed.{put_first, put_more, put_none, put_short}
use Rattle.top_scan.proofs.lines.put_bares.Goals as goal

pub loop-place-init : goal.loop-place-init
loop-place-init g c = record {
  rest = λ told b new puts. put_first (bare_text c.args.names.now c.args.places.now c.args.fronts.now) (length c.args.places.now) b _ new puts;
  later = omega arith;
}

pub returns-in_err-put_bare-clause-output : goal.returns-in_err-put_bare-clause-output
returns-in_err-put_bare-clause-output g c = λ told.
    let p = err_from_is_err_and c.from_residual.result c.from_residual.ensures.1 in
    rw p.1 (c.loop-place.invariant.rest told false _
    (put_short (bare_text c.args.names.now c.args.places.now c.args.fronts.now) c.loop-place.place (length c.args.places.now) _ _ c.loop-place-test.true (c.in_err-put_bare.ensures.output told)))

pub loop-place-preserved : goal.loop-place-preserved
loop-place-preserved g c = record {
  rest = λ told b new puts. c.loop-place.invariant.rest told b new
      (put_more (bare_text c.args.names.now c.args.places.now c.args.fronts.now) c.loop-place.place (length c.args.places.now) b _ _ new c.loop-place-test.true (c.in_ok-put_bare.ensures.output told) puts);
  later = omega (arith, c.put_bare.ensures.later, c.loop-place.invariant.later);
}

pub returns-clause-output : goal.returns-clause-output
returns-clause-output g c = λ told.
    c.loop-place.invariant.rest told true _ (put_none (bare_text c.args.names.now c.args.places.now c.args.fronts.now) c.loop-place.place (length c.args.places.now) _ (omega arith))
