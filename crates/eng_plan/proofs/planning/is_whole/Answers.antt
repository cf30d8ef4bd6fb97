use Rattle.std.proofs.Common.{ℕ, ◌<◌, arith}
use Rattle.eng_plan.proofs.Lacking.{full-none}
use Rattle.eng_plan.proofs.planning.is_whole.Goals as goal

pub returns : goal.returns
returns g c = λ whole.
    let y = g.L.Layout.shape c.args.layout.now in
    let law = g.met.L.Layout.is_layout c.args.layout.now in
    let below : c.args.stripe < y.stripes = let h = c.requires.fit.stripes in let s = c.requires.stripe in omega (arith, h, s) in
    full-none y c.args.cols.now.states c.args.stripe law below (λ k few. c.loop-column.invariant k (let n = c.columns-column-end.ensures in let t = c.loop-column-test.false in omega (arith, few, n, t))) y.width (omega arith)
