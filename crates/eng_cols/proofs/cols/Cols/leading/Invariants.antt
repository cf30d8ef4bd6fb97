use Rattle.std.proofs.Common.{◌≡◌, true, slice_get}
use Rattle.eng_cols.specs.Cols.{is_done_on}
use Rattle.eng_cols.specs.Stripes.{all_done_below, is_stripe_of}
use Rattle.eng_cols.proofs.cols.Cols.leading.Given as goal
use Rattle.eng_cols.proofs.Words.{is_led}
use Rattle.lay_core.specs.Touched.{count_below}

-- each of the column's stripes so far is done, and they are counted
abbrev pub invariant-loop-stripe : goal.invariant-loop-stripe
invariant-loop-stripe g l =
    (all_done_below (is_stripe_of (g.L.Layout.shape l.layout) l.self.states l.column) (is_done_on (slice_get l.self.states l.column)) l.stripe ≡ true)
    × (l.done ≡ count_below (is_led (is_stripe_of (g.L.Layout.shape l.layout) l.self.states l.column) (is_done_on (slice_get l.self.states l.column))) l.stripe)
