use Rattle.std.proofs.Common.{◌≡◌, arith}
use Rattle.top_labelled.proofs.Marks.{from-all}
use Rattle.top_labelled.proofs.marking.mark_stripes.Goals as goal

pub returns : goal.returns
returns g c =
    let y = g.L.Layout.shape c.args.layout.now in
    let end : c.loop-stripe.stripe ≡ y.stripes = omega arith in
    from-all y c.args.columns.now c.args.column c.args.done c.args.most c.loop-stripe.stripe c.args.map.now c.loop-stripe.map c.requires.map end c.loop-stripe.invariant.1
