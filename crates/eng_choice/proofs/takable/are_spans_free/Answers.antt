use Rattle.std.proofs.Common.{◌≡◌, true, false, length, refl, sym, ◌∙◌}
use Rattle.blk_plain.specs.declared.op.Span.{Span}
use Rattle.blk_plain.specs.Plain.{is_in}
use Rattle.stripe_lock.specs.declared.mode.Mode.TheVariants.{Exclude}
use Rattle.lay_core.specs.Touched.{HasBlock}
use Rattle.eng_choice.specs.Free.{AreFreeOf}
use Rattle.eng_choice.proofs.FreeSpans.{has-blocks, within, few, one-free, free-more, all-free}
use Rattle.eng_choice.proofs.takable.are_spans_free.Goals as goal

pub is_span_free-requires-clause-some : goal.is_span_free-requires-clause-some
is_span_free-requires-clause-some g c =
    let long : length c.args.patches.now.list ≡ 8 = search in
    has-blocks (g.L.Layout.shape c.args.array.now.layout) (g.met.L.Layout.is_layout c.args.array.now.layout) c.args.patches.now long c.requires c.loop-i.i c.index-patches-i.result c.loop-i-test.true

pub is_span_free-requires-clause-inside : goal.is_span_free-requires-clause-inside
is_span_free-requires-clause-inside g c =
    let long : length c.args.patches.now.list ≡ 8 = search in
    within (g.L.Layout.shape c.args.array.now.layout) (g.met.L.Layout.is_layout c.args.array.now.layout) c.args.patches.now long c.requires c.loop-i.i c.index-patches-i.result c.loop-i-test.true

pub is_span_free-requires-clause-few : goal.is_span_free-requires-clause-few
is_span_free-requires-clause-few g c =
    let long : length c.args.patches.now.list ≡ 8 = search in
    few (g.L.Layout.shape c.args.array.now.layout) (g.met.L.Layout.is_layout c.args.array.now.layout) c.args.patches.now long c.requires c.loop-i.i c.index-patches-i.result c.loop-i-test.true

pub returns-then-not-is_span_free : goal.returns-then-not-is_span_free
returns-then-not-is_span_free g c = (
  λ z. absurd (let t : false ≡ true = z in let u : ⊥ = cc in u),
  λ free.
      let long : length c.args.patches.now.list ≡ 8 = search in
      let t = c.is_span_free.ensures.1 (one-free (g.L.Layout.shape c.args.array.now.layout) (g.met.L.Layout.is_layout c.args.array.now.layout) c.args.patches.now long c.requires c.loop-i.i c.index-patches-i.result c.loop-i-test.true c.args.array.now.locks c.args.client Exclude free) in
      let f : c.is_span_free.result ≡ false = c.if-not-is_span_free.true in
      absurd (let e : false ≡ true = sym f ∙ t in let u : ⊥ = cc in u),
)

pub loop-i-preserved : goal.loop-i-preserved
loop-i-preserved g c =
    let long : length c.args.patches.now.list ≡ 8 = search in
    let t : c.is_span_free.result ≡ true = c.if-not-is_span_free.false in
    free-more (g.L.Layout.shape c.args.array.now.layout) (g.met.L.Layout.is_layout c.args.array.now.layout) c.args.patches.now long c.requires c.loop-i.i c.index-patches-i.result c.loop-i-test.true
    (λ (s : Span). AreFreeOf c.args.array.now.locks c.args.client Exclude (HasBlock (g.L.Layout.shape c.args.array.now.layout) (is_in s))) c.loop-i.invariant (c.is_span_free.ensures.0 t)

pub returns : goal.returns
returns g c = (
  λ t. all-free (g.L.Layout.shape c.args.array.now.layout) c.args.patches.now c.args.array.now.locks c.args.client Exclude c.loop-i.i c.loop-i-test.false c.loop-i.invariant,
  λ free. refl,
)
