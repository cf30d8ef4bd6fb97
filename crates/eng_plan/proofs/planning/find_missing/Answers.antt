use Rattle.std.specs.Prelude.{not}
use Rattle.std.proofs.Common.{sym, ap, ◌∙◌, arith, ◌<◌}
use Rattle.eng_plan.proofs.Lacking.{first-found}
use Rattle.eng_plan.proofs.planning.find_missing.Goals as goal

pub returns-then-is_none : goal.returns-then-is_none
returns-then-is_none g c =
    let y = g.L.Layout.shape c.args.layout.now in
    let below : c.loop-unit.unit < y.width = omega (arith, c.loop-unit-test.true, c.width-unit-end.ensures) in
    let gone = c.spot.ensures.missing.0 (c.is_none.ensures ∙ ap not c.if-is_none.true) in
    sym (first-found y c.args.cols.now.states c.args.stripe c.loop-unit.unit y.width below c.loop-unit.invariant gone)
