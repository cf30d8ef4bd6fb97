use Rattle.std.proofs.Common.{◌≤◌, ◌+◌, ◌-◌, ◌/◌, arith}
use Rattle.lay_core.specs.Layout.{data_units, stripe_of}
use Rattle.lay_core.proofs.Quotients.{div-le-div}
use Rattle.top_join.proofs.spans.stripe_count.Goals as goal

pub overflow_sub-result : goal.overflow_sub-result
overflow_sub-result g c =
    let y = g.L.Layout.shape c.args.layout.now in
    let is = g.met.L.Layout.is_layout c.args.layout.now in
    let s = c.args.span in
    let some = c.requires.some in
    let units : s.first / y.unit_sectors ≤ (s.first + s.count - 1) / y.unit_sectors =
    div-le-div s.first (s.first + s.count - 1) y.unit_sectors is.unit_least (omega (arith, some)) in
    let stripes : stripe_of y s.first ≤ stripe_of y (s.first + s.count - 1) =
    div-le-div (s.first / y.unit_sectors) ((s.first + s.count - 1) / y.unit_sectors) (data_units y) (let b = is.checks_below in omega (arith, b)) units in
    let a = c.home.ensures.stripe in
    let b = c.last_stripe.ensures in
    omega (arith, stripes, a, b)
