use Rattle.std.proofs.Common.{◌*◌, sym, subst}
use Rattle.lay_design.specs.Design.{Blocks}
use Rattle.lay_decluster.specs.Limits.{table_stripes}
use Rattle.lay_decluster.specs.Shapes.{declustered}
use Rattle.lay_decluster.specs.Balance.{IsBalanced}
use Rattle.lay_decluster.proofs.Balanced.{declustered_balanced}
use Rattle.lay_decluster.proofs.declustered.Declustered.new.Goals as goal

pub returns-in-Ok-clause-balanced : goal.returns-in-Ok-clause-balanced
returns-in-Ok-clause-balanced c =
    let d = c.args.design in
    subst (λ (e : Blocks). IsBalanced (declustered e c.args.unit_sectors c.args.rows) (table_stripes d) (d.lambda * d.k) d.r 0) (sym c.in-Ok.ensures) (declustered_balanced d c.in_default.ensures.ok.design c.args.unit_sectors c.args.rows)
