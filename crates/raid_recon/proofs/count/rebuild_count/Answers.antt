use Rattle.std.proofs.Common.{◌≡◌, ◌∙◌, ap, arith, sym}
use Rattle.eng_cols.specs.Stripes.{are_spread, is_stripe_by, is_stripe_of, spreads, states_of}
use Rattle.eng_cols.proofs.Counting.{count-few, count-same, stripe-of, stripe-same}
use Rattle.eng_cols.proofs.Fewer.{states-spread}
use Rattle.raid_recon.proofs.count.rebuild_count.Goals as goal
use Rattle.lay_core.specs.Touched.{count_below}

pub overflow_add-count : goal.overflow_add-count
overflow_add-count g c =
    let y = g.L.Layout.shape c.args.layout.now in
    let law = g.met.L.Layout.is_layout c.args.layout.now in
    omega (arith, c.loop-stripe.invariant, count-few (is_stripe_by y (spreads c.args.columns.now) c.args.column) c.loop-stripe.stripe, c.loop-stripe-test.true, c.stripes-stripe-end.ensures, law.stripes_most)

pub returns-clause-count : goal.returns-clause-count
returns-clause-count g c =
    let y = g.L.Layout.shape c.args.layout.now in
    let columns = c.args.columns.now in
    let k = c.args.column in
    let end : c.loop-stripe.stripe ≡ y.stripes = omega arith in
    c.loop-stripe.invariant
    ∙ ap (count_below (is_stripe_by y (spreads columns) k)) end
    ∙ count-same (is_stripe_by y (spreads columns) k) (is_stripe_of y (states_of y columns) k) y.stripes
    (λ s. stripe-same y (spreads columns) (are_spread (states_of y columns)) k s (λ j. sym (states-spread y columns j)))

pub returns-clause-stripes : goal.returns-clause-stripes
returns-clause-stripes g c = let y = g.L.Layout.shape c.args.layout.now in stripe-of y (states_of y c.args.columns.now) c.args.column
