use Rattle.std.proofs.Common.{◌≡◌, ap, ◌∙◌, ◌↔◌, ℕ, List, true, false, subst, sym}
use Rattle.std.specs.Prelude.{Contains}
use Rattle.std.specs.List.{range_with_len}
use Rattle.blk_plain.specs.Plain.{is_in}
use Rattle.lay_core.specs.Touched.{HasBlock}
use Rattle.eng_plan.proofs.SpanStripes.{span-each}
use Rattle.eng_choice.proofs.FreeStripes.{free-where, listed}
use Rattle.eng_choice.proofs.takable.free_span.Goals as goal

pub returns-then-free : goal.returns-then-free
returns-then-free g c =
    let core = c.args.array.now in
    let y = g.L.Layout.shape core.layout in
    let law = g.met.L.Layout.is_layout core.layout in
    let first = c.stripes_of-stripes.result.first in
    let count = c.stripes_of-stripes.result.count in
    let few = c.stripes_of-stripes.ensures.few in
    let is = listed first count c.numbers_from-numbers.result c.numbers_from-numbers.ensures.long few c.numbers_from-numbers.ensures.each
    ∙ (ap (λ (n : ℕ). range_with_len n count) c.stripes_of-stripes.ensures.first ∙ ap (range_with_len _) c.stripes_of-stripes.ensures.count) in
    let each : (s : ℕ) → Contains _ s ↔ HasBlock y (is_in c.args.span) s = λ s. subst (λ (l : List ℕ). Contains l s ↔ HasBlock y (is_in c.args.span) s) (sym is) (span-each y law c.args.span c.requires.some c.requires.inside c.requires.few s) in
    ((free-where core.locks c.args.client c.args.mode _ (HasBlock y (is_in c.args.span)) each c.can_take-free.result c.can_take-free.ensures.conflict).0 c.if-free.true, c.stripes_of-stripes.ensures.count, few)

pub returns-else-free : goal.returns-else-free
returns-else-free g c =
    let core = c.args.array.now in
    let y = g.L.Layout.shape core.layout in
    let law = g.met.L.Layout.is_layout core.layout in
    let first = c.stripes_of-stripes.result.first in
    let count = c.stripes_of-stripes.result.count in
    let few = c.stripes_of-stripes.ensures.few in
    let is = listed first count c.numbers_from-numbers.result c.numbers_from-numbers.ensures.long few c.numbers_from-numbers.ensures.each
    ∙ (ap (λ (n : ℕ). range_with_len n count) c.stripes_of-stripes.ensures.first ∙ ap (range_with_len _) c.stripes_of-stripes.ensures.count) in
    let each : (s : ℕ) → Contains _ s ↔ HasBlock y (is_in c.args.span) s = λ s. subst (λ (l : List ℕ). Contains l s ↔ HasBlock y (is_in c.args.span) s) (sym is) (span-each y law c.args.span c.requires.some c.requires.inside c.requires.few s) in
    λ free. let z : true ≡ false = sym ((free-where core.locks c.args.client c.args.mode _ (HasBlock y (is_in c.args.span)) each c.can_take-free.result c.can_take-free.ensures.conflict).1 free) ∙ c.if-free.false in let u : ⊥ = cc in u
