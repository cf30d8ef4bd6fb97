use Rattle.std.proofs.Common.{arith}
use Rattle.top_layout.specs.Tallies.{is_counted}
use Rattle.top_layout.proofs.Counting.{count-few}
use Rattle.top_layout.proofs.tally.count_such.Goals as goal

pub overflow_add-count : goal.overflow_add-count
overflow_add-count g c =
    let y = g.L.Layout.shape c.args.layout.now in
    let law = g.met.L.Layout.is_layout c.args.layout.now in
    omega (arith, c.loop-stripe.invariant, count-few (is_counted y c.args.what) c.loop-stripe.stripe, c.loop-stripe-test.true, c.stripes-stripe-end.ensures, law.stripes_most)
