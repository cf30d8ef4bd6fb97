use Rattle.std.proofs.Common.{◌≡◌, ◌-◌}
use Rattle.eng_cols.specs.Stripes.{first_done, is_stripe_by, spreads}
use Rattle.eng_cols.proofs.stripes.mark_first.Given as goal
use Rattle.lay_core.specs.Touched.{count_below}

-- of the stripes so far the first are marked, and so many are left
abbrev pub invariant-loop-stripe : goal.invariant-loop-stripe
invariant-loop-stripe g l =
    (l.filled.items ≡ first_done (is_stripe_by (g.L.Layout.shape l.layout) (spreads l.columns) l.column) l.done l.stripe (g.L.Layout.shape l.layout).stripes)
    × (l.left ≡ l.done - count_below (is_stripe_by (g.L.Layout.shape l.layout) (spreads l.columns) l.column) l.stripe)
