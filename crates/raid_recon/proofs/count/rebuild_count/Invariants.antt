use Rattle.std.proofs.Common.{◌≡◌}
use Rattle.eng_cols.specs.Stripes.{is_stripe_by, spreads}
use Rattle.raid_recon.proofs.count.rebuild_count.Given as goal
use Rattle.lay_core.specs.Touched.{count_below}

-- those of the stripes so far are counted
abbrev pub invariant-loop-stripe : goal.invariant-loop-stripe
invariant-loop-stripe g l = l.count ≡ count_below (is_stripe_by (g.L.Layout.shape l.layout) (spreads l.columns) l.column) l.stripe
