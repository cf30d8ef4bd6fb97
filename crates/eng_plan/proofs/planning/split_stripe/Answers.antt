use Rattle.std.proofs.Common.{◌≤◌, sym, subst, arith}
use Rattle.blk_plain.specs.declared.op.Span.{Span}
use Rattle.lay_core.specs.Touched.{PassesEnd, stripe_count}
use Rattle.eng_plan.proofs.Maps.{whole-one, whole-some, whole-inside}
use Rattle.eng_plan.proofs.planning.split_stripe.Goals as goal

pub split_span-requires-clause-some : goal.split_span-requires-clause-some
split_span-requires-clause-some g c =
    let y = g.L.Layout.shape c.args.layout.now in
    let law = g.met.L.Layout.is_layout c.args.layout.now in
    subst (λ (s : Span). 1 ≤ s.count) (sym c.whole.ensures) (whole-some y law c.args.stripe c.requires)

pub split_span-requires-clause-inside : goal.split_span-requires-clause-inside
split_span-requires-clause-inside g c =
    let y = g.L.Layout.shape c.args.layout.now in
    let law = g.met.L.Layout.is_layout c.args.layout.now in
    subst (λ (s : Span). PassesEnd y s → ⊥) (sym c.whole.ensures) (whole-inside y law c.args.stripe c.requires)

pub split_span-requires-clause-short : goal.split_span-requires-clause-short
split_span-requires-clause-short g c =
    let y = g.L.Layout.shape c.args.layout.now in
    let law = g.met.L.Layout.is_layout c.args.layout.now in
    let one = whole-one y law c.args.stripe c.requires in
    subst (λ (s : Span). stripe_count y s ≤ 16) (sym c.whole.ensures) (omega (arith, one))

pub returns-clause-few : goal.returns-clause-few
returns-clause-few g c =
    let one = whole-one (g.L.Layout.shape c.args.layout.now) (g.met.L.Layout.is_layout c.args.layout.now) c.args.stripe c.requires in
    omega (arith, one)
