use Rattle.std.proofs.Common.{◌≡◌}
use Rattle.lay_core.specs.Touched.{count_below}
use Rattle.top_layout.specs.Tallies.{is_counted}
use Rattle.top_layout.proofs.tally.count_such.Given as goal

-- those of the stripes so far are counted
abbrev pub invariant-loop-stripe : goal.invariant-loop-stripe
invariant-loop-stripe g l = l.count ≡ count_below (is_counted (g.L.Layout.shape l.layout) l.what) l.stripe
