use Rattle.std.proofs.Common.{◌≡◌, false}
use Rattle.eng_cols.specs.Stripes.{is_unit_by, spreads}
use Rattle.eng_cols.proofs.stripes.is_stripe_of.Given as goal
use Rattle.lay_core.specs.Touched.{any_below}

-- none of the units so far is one of the column's
abbrev pub invariant-loop-unit : goal.invariant-loop-unit
invariant-loop-unit g l = any_below (λ i. is_unit_by (g.L.Layout.shape l.layout) (spreads l.columns) l.stripe i l.column) l.unit ≡ false
