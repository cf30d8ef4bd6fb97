use Rattle.std.proofs.Common.{◌-◌, ◌*◌, ◌≤◌, arith, sym, subst}
use Rattle.lay_design.specs.Design.{Blocks}
use Rattle.lay_decluster.specs.Limits.{table_stripes}
use Rattle.lay_decluster.specs.Shapes.{spared}
use Rattle.lay_decluster.specs.Balance.{IsBalanced}
use Rattle.lay_decluster.proofs.Balanced.{spared_balanced}
use Rattle.lay_decluster.proofs.spared.Spared.new.Goals as goal

pub returns-in-Ok-clause-balanced : goal.returns-in-Ok-clause-balanced
returns-in-Ok-clause-balanced c =
    let d = c.args.design in
    let wide : 3 ≤ d.k = omega arith in
    subst (λ (e : Blocks). IsBalanced (spared e c.args.unit_sectors c.args.rows) (table_stripes d) (d.lambda * (d.k - 2)) d.r d.r) (sym c.in-Ok.ensures) (spared_balanced d c.in_default.ensures.ok.design wide c.args.unit_sectors c.args.rows)
