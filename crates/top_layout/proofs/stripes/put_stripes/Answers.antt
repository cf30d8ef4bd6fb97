use Rattle.std.proofs.Common.{true, false, arith}
use Rattle.std.proofs.lemmas.Result.{err_from_is_err_and}
use Rattle.top_layout.specs.Lines.{stripe_text, stripes_text}
use Rattle.top_layout.proofs.LinesFrom.{line_cut, line_first, line_none, line_put}
use Rattle.top_layout.proofs.stripes.put_stripes.Goals as goal

pub loop-stripe-init : goal.loop-stripe-init
unfolding stripes_text
loop-stripe-init g c = record {
  rest = λ told b new puts. line_first (stripe_text (g.L.Layout.shape c.args.layout.now)) ((g.L.Layout.shape c.args.layout.now).stripes) b _ new puts;
  later = omega arith;
}

pub returns-in_err-put_stripe-clause-output : goal.returns-in_err-put_stripe-clause-output
returns-in_err-put_stripe-clause-output g c = λ told.
    let p = err_from_is_err_and c.from_residual.result c.from_residual.ensures.1 in
    rw p.1 (c.loop-stripe.invariant.rest told false _
    (line_cut (stripe_text (g.L.Layout.shape c.args.layout.now)) c.loop-stripe.stripe ((g.L.Layout.shape c.args.layout.now).stripes) _ _ (omega (arith, c.loop-stripe-test.true, c.stripes-stripe-end.ensures))
    (c.in_err-put_stripe.ensures.output told)))

pub loop-stripe-preserved : goal.loop-stripe-preserved
loop-stripe-preserved g c = record {
  rest = λ told b new puts. c.loop-stripe.invariant.rest told b new
      (line_put (stripe_text (g.L.Layout.shape c.args.layout.now)) c.loop-stripe.stripe ((g.L.Layout.shape c.args.layout.now).stripes) b _ _ new (omega (arith, c.loop-stripe-test.true, c.stripes-stripe-end.ensures))
      (c.in_ok-put_stripe.ensures.output told) puts);
  later = omega (arith, c.put_stripe.ensures.later, c.loop-stripe.invariant.later);
}

pub returns-clause-output : goal.returns-clause-output
returns-clause-output g c = λ told.
    c.loop-stripe.invariant.rest told true _
    (line_none (stripe_text (g.L.Layout.shape c.args.layout.now)) c.loop-stripe.stripe ((g.L.Layout.shape c.args.layout.now).stripes) _ (omega (arith, c.loop-stripe-test.false, c.stripes-stripe-end.ensures)))
