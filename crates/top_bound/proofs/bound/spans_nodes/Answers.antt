use Rattle.std.proofs.Common.{◌≡◌, ◌∙◌, ◌<◌, ◌+◌, ◌*◌, ℕ, Bool, true, false, if◌then◌else◌, length, ap, sym, subst, arith}
use Rattle.std.specs.Prelude.{Any, IsTrue, ◌↔◌}
use Rattle.blk_plain.specs.declared.op.Span.{Span}
use Rattle.blk_plain.specs.Plain.{is_in_some, spans_of}
use Rattle.lay_core.specs.Layout.{blocks_in, data_units}
use Rattle.lay_core.specs.Touched.{stripes_among}
use Rattle.top_bound.specs.Bound.{spans_nodes}
use Rattle.top_bound.proofs.Patched.{some-passes}
use Rattle.top_bound.proofs.bound.spans_nodes.Goals as goal

pub returns-else-some_passes_end-clause-value : goal.returns-else-some_passes_end-clause-value
unfolding spans_nodes
returns-else-some_passes_end-clause-value g c =
    let patches = c.args.patches.now in
    let y = g.L.Layout.shape c.args.layout.now in
    let units : c.from-units.result ≡ data_units y = omega (arith, c.from-units.ensures, c.width.ensures, c.checks.ensures) in
    let stripes : c.from-stripes.result ≡ stripes_among y (is_in_some (spans_of patches)) = omega (arith, c.from-stripes.ensures, c.count_all.ensures) in
    let spans : c.from.result ≡ length (spans_of patches) = omega (arith, c.from.ensures, c.count_spans.ensures.value) in
    let test : IsTrue c.some_passes_end.result ↔ Any (λ (s : Span). blocks_in y < s.first + s.count) (spans_of patches) =
    subst (λ (n : ℕ). IsTrue c.some_passes_end.result ↔ Any (λ (s : Span). n < s.first + s.count) (spans_of patches)) c.blocks-2.ensures c.some_passes_end.ensures in
    let none = some-passes (blocks_in y) (spans_of patches) c.some_passes_end.result test ∙ c.if-some_passes_end.false in
    ap (λ (u : ℕ). (2 * u + 1) * (c.from-stripes.result + 2 * c.from.result) + 2) units
    ∙ (ap (λ (s : ℕ). (2 * data_units y + 1) * (s + 2 * c.from.result) + 2) stripes
    ∙ (ap (λ (r : ℕ). (2 * data_units y + 1) * (stripes_among y (is_in_some (spans_of patches)) + 2 * r) + 2) spans
    ∙ sym (ap (λ (b : Bool). if b then 0 else (2 * data_units y + 1) * (stripes_among y (is_in_some (spans_of patches)) + 2 * length (spans_of patches)) + 2) none)))
