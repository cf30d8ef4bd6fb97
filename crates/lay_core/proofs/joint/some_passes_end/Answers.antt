use Rattle.std.proofs.Common.{◌≡◌, ◌<◌, ◌+◌, refl, true, false, take, length, get_or, subst, sym, ◌∙◌, arith}
use Rattle.std.specs.Prelude.{All}
use Rattle.std.proofs.lemmas.List.Elements.{All-append}
use Rattle.blk_plain.specs.declared.op.Span.{Span}
use Rattle.blk_plain.specs.Plain.{spans_of}
use Rattle.lay_core.proofs.NextSpan.{spans-more, spans-all, spans-long, span-at, one}
use Rattle.lay_core.proofs.joint.some_passes_end.Goals as goal

pub returns-then-passes_end : goal.returns-then-passes_end
returns-then-passes_end c =
    let long : length c.args.patches.now.list ≡ 8 = search in
    let d = c.index-patches-i.result in
    let i = c.loop-i.i in
    let n = spans-long c.args.patches.now long c.requires in
    let l = c.loop-i-test.true in
    let s = (get_or c.args.patches.now.list i d).span in
    let past = c.passes_end.ensures.0 c.if-passes_end.true in
    (λ _. (i, s, omega (arith, n, l), span-at c.args.patches.now long c.requires i d s l, past), λ _. refl)

pub loop-i-preserved : goal.loop-i-preserved
loop-i-preserved c =
    let long : length c.args.patches.now.list ≡ 8 = search in
    let d = c.index-patches-i.result in
    let s = (get_or c.args.patches.now.list c.loop-i.i d).span in
    let P = λ (s : Span). c.args.blocks < s.first + s.count → ⊥ in
    let fits : c.args.blocks < s.first + s.count → ⊥ = λ h. let z : false ≡ true = sym c.if-passes_end.false ∙ c.passes_end.ensures.1 h in let u : ⊥ = cc in u in
    subst (All P) (sym (spans-more c.args.patches.now long c.requires c.loop-i.i d c.loop-i-test.true)) (All-append P (take c.loop-i.i (spans_of c.args.patches.now)) _ c.loop-i.invariant (one P s fits))

pub returns : goal.returns
returns c =
    let all = subst (All (λ (s : Span). c.args.blocks < s.first + s.count → ⊥)) (spans-all c.args.patches.now c.loop-i.i c.loop-i-test.false) c.loop-i.invariant in
    (λ z. absurd (let y : false ≡ true = z in let u : ⊥ = cc in u), λ any. absurd (all any.0 any.1 any.2 (subst (λ (s : Span). c.args.blocks < s.first + s.count) (sym any.3) any.4)))
