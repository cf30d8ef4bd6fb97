use Rattle.std.proofs.Common.{sym, subst, arith}
use Rattle.graph_mean.specs.declared.task.Kind.{Kind}
use Rattle.graph_mean.specs.Task.{HasUnitBelow}
use Rattle.eng_plan.proofs.Lacking.{first-below}
use Rattle.eng_plan.proofs.planning.kind_of.Goals as goal

pub returns-in-Rebuild-clause-unit : goal.returns-in-Rebuild-clause-unit
returns-in-Rebuild-clause-unit g c =
    let y = g.L.Layout.shape c.args.layout.now in
    let law = g.met.L.Layout.is_layout c.args.layout.now in
    subst (λ (k : Kind). HasUnitBelow y.width k) (sym c.kind_for.ensures) (first-below y c.args.cols.now.states c.in-Rebuild.stripe c.missing_unit.result (sym c.missing_unit.ensures) (let h = law.checks_below in omega (arith, h)))
