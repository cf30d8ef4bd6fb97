use Rattle.std.proofs.Common.{◌+◌, slice_get, refl, sym, ap, ◌∙◌, arith}
use Rattle.eng_cols.specs.Cols.{is_done_on}
use Rattle.eng_cols.specs.Stripes.{is_stripe_of}
use Rattle.eng_cols.proofs.Counting.{count-few, led-none, led-one, led-skip, led-stays, leading-is}
use Rattle.eng_cols.proofs.cols.Cols.leading.Goals as goal
use Rattle.eng_cols.proofs.cols.Cols.leading.Goals.{then-is_stripe_of+else-not-is_done, else-is_stripe_of}
use Rattle.eng_cols.proofs.Words.{is_led}

pub loop-stripe-init : goal.loop-stripe-init
loop-stripe-init g c = (led-none (is_stripe_of (g.L.Layout.shape c.args.layout.now) c.args.self.now.states c.args.column) (is_done_on (slice_get c.args.self.now.states c.args.column)), refl)

pub returns-then-not-is_done : goal.returns-then-not-is_done
returns-then-not-is_done g c =
    let y = g.L.Layout.shape c.args.layout.now in
    let p = is_stripe_of y c.args.self.now.states c.args.column in
    let d = is_done_on (slice_get c.args.self.now.states c.args.column) in
    c.loop-stripe.invariant.1
    ∙ sym (led-stays p d c.loop-stripe.stripe y.stripes (omega (arith, c.loop-stripe-test.true, c.stripes-stripe-end.ensures)) (sym c.is_stripe_of.ensures.is ∙ c.if-is_stripe_of.true) (sym c.is_done.ensures ∙ c.if-not-is_done.true))
    ∙ leading-is y c.args.self.now.states c.args.column y.stripes refl

pub returns : goal.returns
returns g c =
    let y = g.L.Layout.shape c.args.layout.now in
    c.loop-stripe.invariant.1 ∙ leading-is y c.args.self.now.states c.args.column c.loop-stripe.stripe (omega (arith, c.loop-stripe-test.false, c.stripes-stripe-end.ensures))

pub overflow_add-done : goal.overflow_add-done
overflow_add-done g c =
    let y = g.L.Layout.shape c.args.layout.now in
    let law = g.met.L.Layout.is_layout c.args.layout.now in
    let p = is_stripe_of y c.args.self.now.states c.args.column in
    let d = is_done_on (slice_get c.args.self.now.states c.args.column) in
    omega (arith, c.loop-stripe.invariant.1, count-few (is_led p d) c.loop-stripe.stripe, c.loop-stripe-test.true, c.stripes-stripe-end.ensures, law.stripes_most)

pub loop-stripe-preserved : goal.loop-stripe-preserved
loop-stripe-preserved g c =
    let y = g.L.Layout.shape c.args.layout.now in
    let p = is_stripe_of y c.args.self.now.states c.args.column in
    let d = is_done_on (slice_get c.args.self.now.states c.args.column) in
    elim c.if-is_stripe_of.branch [
      | then-is_stripe_of+else-not-is_done w ↦
          let one = led-one p d c.loop-stripe.stripe c.loop-stripe.invariant.0 (sym c.is_stripe_of.ensures.is ∙ w.if-is_stripe_of.true) (sym w.is_done.ensures ∙ w.if-not-is_done.false) in
          (one.0, w.done-is ∙ ap (λ n. n + 1) c.loop-stripe.invariant.1 ∙ sym one.1)
      | else-is_stripe_of w ↦
          let skip = led-skip p d c.loop-stripe.stripe c.loop-stripe.invariant.0 (sym c.is_stripe_of.ensures.is ∙ w.if-is_stripe_of.false) in
          (skip.0, w.done-is ∙ c.loop-stripe.invariant.1 ∙ sym skip.1)
    ]
