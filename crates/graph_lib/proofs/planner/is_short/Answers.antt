use Rattle.std.proofs.Common.{ap, arith, length}
use Rattle.graph_lib.proofs.PartRanges.{part-ranges}
use Rattle.graph_lib.proofs.planner.is_short.Goals as goal

pub returns-then-stripes-eq1-clause-ranges : goal.returns-then-stripes-eq1-clause-ranges
returns-then-stripes-eq1-clause-ranges c = λ few.
    let one = c.if-stripes-eq1.true in
    let stripes = c.stripes.ensures in
    let parts = ap length c.parts.ensures in
    let most = part-ranges c.args.task.now c.width-width.ensures.task.unit_least in
    grind (arith, few, one, stripes, parts, most)
