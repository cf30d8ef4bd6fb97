use Rattle.eng_cols.specs.Stripes.{is_stripe_by, spreads}
use Rattle.raid_map.specs.Asking.{MarksAlso}
use Rattle.top_labelled.proofs.Marks.{AreCounted, FromBelow}
use Rattle.top_labelled.proofs.marking.mark_stripes.Given as goal
use Rattle.lay_core.specs.Touched.{count_below}

-- of the column's stripes so far those are counted that were passed over and marked, and these are marked
abbrev pub invariant-loop-stripe : goal.invariant-loop-stripe
invariant-loop-stripe g l =
    AreCounted l.done l.most l.passed l.marked (count_below (is_stripe_by (g.L.Layout.shape l.layout) (spreads l.columns) l.column) l.stripe)
    × MarksAlso (FromBelow (is_stripe_by (g.L.Layout.shape l.layout) (spreads l.columns) l.column) l.done l.most l.stripe) l.fn.map l.map
