use Rattle.std.proofs.Common.{sym, ◌∙◌, arith}
use Rattle.eng_cols.specs.Stripes.{spreads}
use Rattle.eng_cols.proofs.Counting.{stripe-here}
use Rattle.eng_cols.proofs.stripes.is_stripe_of.Goals as goal

pub returns-then-is_unit_of : goal.returns-then-is_unit_of
returns-then-is_unit_of g c =
    sym (stripe-here (g.L.Layout.shape c.args.layout.now) (spreads c.args.columns.now) c.args.column c.args.stripe c.loop-unit.unit
    (omega (arith, c.loop-unit-test.true, c.width-unit-end.ensures)) (sym c.is_unit_of.ensures ∙ c.if-is_unit_of.true))
