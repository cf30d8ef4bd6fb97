use Rattle.std.proofs.Common.{◌≡◌, ◌∙◌, ◌≤◌, ℕ, get_or, length, sym, subst, arith}
use Rattle.std.proofs.lemmas.List.{get_or-map, length-map}
use Rattle.blk_plain.specs.declared.op.Patch.{Patch}
use Rattle.blk_plain.specs.declared.op.Span.{Span}
use Rattle.blk_plain.specs.Plain.{spans_of, used_of}
use Rattle.top_join.proofs.TwoSpans.{merged, other, two}
use Rattle.top_join.specs.Answers.{outcome_of}
use Rattle.top_join.specs.Steps.{IsMerged}
use Rattle.top_join.proofs.joining.join_over.Goals as goal

pub returns-then-used-ne2 : goal.returns-then-used-ne2
returns-then-used-ne2 g c =
    other (g.L.Layout.shape c.args.layout.now) c.args.a.now.drawn c.args.b.now.drawn c.args.out.now.drawn (used_of c.args.patches.now) c.if-used-ne2.true c.requires.blank

pub stripe_count-requires-clause-some : goal.stripe_count-requires-clause-some
stripe_count-requires-clause-some g c =
    let ps = used_of c.args.patches.now in
    let p = c.index-used-0.result in
    let two = c.if-used-ne2.false in
    let many = length-map ps (λ (q : Patch). q.span) in
    subst (λ (s : Span). 1 ≤ s.count) (get_or-map (λ (q : Patch). q.span) ps 0 p p.span (omega (arith, two)))
    (c.requires.some 0 p.span (omega (arith, two, many)))

pub returns : goal.returns
returns g c =
    let y = g.L.Layout.shape c.args.layout.now in
    let ps = used_of c.args.patches.now in
    let p = c.index-used-0.result in
    let q = c.index-used-1.result in
    let a = c.args.a.now.drawn in
    let b = c.args.b.now.drawn in
    let r = outcome_of c.merge_at.result c.merge_at.new.out.drawn in
    let is_two = c.if-used-ne2.false in
    let many : length ps ≡ 2 = omega (arith, is_two) in
    merged y a b (get_or ps 0 p).span (get_or ps 1 q).span (spans_of c.args.patches.now) r (two ps p q many)
    (sym c.may_join.ensures ∙ c.if-not-may_join.false)
    (sym c.is_before.ensures ∙ c.if-not-is_before.false)
    (subst (λ (n : ℕ). IsMerged a b n r) c.stripe_count.ensures c.merge_at.ensures)
