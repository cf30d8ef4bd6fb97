use Rattle.std.proofs.Common.{◌≡◌, ◌+◌, ℕ, take, length, get_or, ap, ◌∙◌, arith}
use Rattle.std.specs.Prelude.{sum_by}
use Rattle.std.proofs.lemmas.List.Sums.{sum_by_push}
use Rattle.blk_plain.specs.declared.op.Span.{Span}
use Rattle.blk_plain.specs.Plain.{spans_of}
use Rattle.lay_core.proofs.NextSpan.{spans-more, spans-all}
use Rattle.eng_plan.specs.Pooled.{most_of_span}
use Rattle.eng_plan.proofs.pooled.sum_of_spans.Goals as goal

pub loop-i-preserved : goal.loop-i-preserved
loop-i-preserved g c =
    let long : length c.args.patches.now.list ≡ 8 = search in
    let f : Span → ℕ = most_of_span (g.L.Layout.shape c.args.layout.now) in
    let i = c.loop-i.i in
    let d = c.index-patches-i.result in
    let s = (get_or c.args.patches.now.list i d).span in
    let xs = spans_of c.args.patches.now in
    let more : sum_by f (take (i + 1) xs) ≡ sum_by f (take i xs) + f s = ap (sum_by f) (spans-more c.args.patches.now long c.requires i d c.loop-i-test.true) ∙ sum_by_push f (take i xs) s in
    let so : c.loop-i.stripes ≡ sum_by f (take i xs) = c.loop-i.invariant.0 in
    let bound = c.loop-i.invariant.1 in
    let one : c.most_of_span-stripes.result ≡ f s = c.most_of_span-stripes.ensures.most in
    let few = c.most_of_span-stripes.ensures.few in
    (omega (arith, more, so, one), omega (arith, bound, few))

pub returns : goal.returns
returns g c = c.loop-i.invariant.0 ∙ ap (sum_by (most_of_span (g.L.Layout.shape c.args.layout.now))) (spans-all c.args.patches.now c.loop-i.i c.loop-i-test.false)
