-- No item leases more than is told of it.
use Rattle.std.proofs.Common.{◌≡◌, ℕ, zero, suc, ◌<◌, ◌≤◌, ◌+◌, ◌-◌, ◌*◌, Bool, List, [], length, subst, sym, ap, ◌∙◌, arith, refl, inl, inr, Option, Some, None, slice_get, get_or}
use Rattle.std.specs.Prelude.{if◌then◌else◌, min, max, sum_by, Contains}
use Rattle.std.specs.Ordering.{ord_max, nat_cmp}
use Rattle.std.proofs.lemmas.Bool.Decides.{nat_tests}
use Rattle.std.proofs.Math.Nat.{le-min, min-le_left, min-le_right, mul-le-mul_left, le-max_left, le-max_right}
use Rattle.std.proofs.lemmas.Bool.{cases_eq, le-ltb}
use Rattle.std.proofs.lemmas.Option.{slice_get_within, slice_get_read}
use Rattle.blk_plain.specs.declared.op.Op.{Op}
use Rattle.blk_plain.specs.declared.op.Op.TheVariants.{Write, Writes, Read, Rebuild, Sync}
use Rattle.blk_plain.specs.declared.op.Span.{Span}
use Rattle.blk_plain.specs.declared.op.Patches.{Patches}
use Rattle.blk_plain.specs.Plain.{is_in, is_in_some, spans_of}
use Rattle.lay_core.specs.Layout.{Shape, IsLayout, data_units}
use Rattle.lay_core.specs.Touched.{PassesEnd, stripe_count, stripes_among}
use Rattle.graph_mean.specs.Graph.{Held}
use Rattle.eng_world.specs.Planning.{span_count, lease_of}
use Rattle.eng_world.specs.declared.item.Item.{Item}
use Rattle.eng_world.specs.declared.item.Item.TheVariants as item
use Rattle.eng_plan.specs.Asked.{IsInside, stripes_by, lease_for}
use Rattle.eng_plan.specs.Pooled.{most_of_span, most_stripes, most_spans, most_leased, item_leases, greatest, row_leases, own_leases, LeasesAtMost}
use Rattle.eng_plan.proofs.Maps.{not-past}
use Rattle.lay_core.proofs.Walked.{is-some-count, is-in-range}
use Rattle.eng_plan.proofs.SpanStripes.{short-few, span-many, whole-many, span-stripes, span-few, among-sum, sum-le}

-- the greater one, in the words of the call
pub max-is : (a b : ℕ) → ord_max nat_cmp a b ≡ max a b
max-is a b = grind (arith, nat_tests)

-- each number is no greater than the greatest
pub greatest-most : (f : ℕ → ℕ) (i n : ℕ) → i < n → f i ≤ greatest f n
unfolding greatest
greatest-most f i zero l = absurd (omega (arith, l))
greatest-most f i (suc n) l = elim (cases_eq i n) [
  | inl here ↦ let e : f i ≡ f n = ap f here in let m = le-max_right (greatest f n) (f n) in omega (arith, e, m)
  | inr ne ↦ let r = greatest-most f i n (omega (arith, l, ne)) in let m = le-max_left (greatest f n) (f n) in omega (arith, r, m)
]

-- none at all
pub greatest-none : (f : ℕ → ℕ) → 0 ≡ greatest f 0
unfolding greatest
greatest-none f = refl

-- one more number
pub greatest-one : (f : ℕ → ℕ) (n : ℕ) → greatest f (n + 1) ≡ max (greatest f n) (f n)
unfolding greatest
greatest-one f n = let e : n + 1 ≡ suc n = omega arith in ap (greatest f) e

-- the one that was read is the one at its place
pub item-read : (y : Shape) (graphs : List Held) (items : List Item) (k : ℕ) (i : Item) (n : ℕ) → k < length items → i ≡ get_or items k i → n ≡ item_leases y graphs (Some i) → n ≡ item_leases y graphs (slice_get items k)
item-read y graphs items k i n below is leased = leased ∙ ap (item_leases y graphs) (sym (slice_get_read items (length items) k i refl below is))

module _ (y : Shape) (law : IsLayout y) where
  span-most : (span : Span) → 1 ≤ span.count → (PassesEnd y span → ⊥) → (16 < stripe_count y span → ⊥) → stripes_among y (is_in span) ≤ most_of_span y span
  span-most span some inside short =
      let few = short-few (stripe_count y span) short in
      let many = span-many y law span some inside few in
      let is = span-stripes y law span some in
      le-min (omega (arith, many, is)) (omega (arith, many, few))

  whole-least : (stripe : ℕ) → (y.stripes ≤ stripe → ⊥) → stripes_by y (Rebuild stripe) ≤ 1
  whole-least stripe inside = let w = whole-many y law stripe (not-past stripe y.stripes inside) in omega (arith, w)

  all-most : (patches : Patches) → IsInside y (Writes patches) → stripes_by y (Writes patches) ≤ min (sum_by (most_of_span y) (spans_of patches)) 16
  all-most patches is =
      let ss = spans_of patches in
      let few = short-few (stripes_among y (is_in_some ss)) is.short in
      let each : (s : Span) → Contains ss s → stripes_among y (is_in s) ≤ most_of_span y s =
      λ s own.
      let some = is-some-count ss s own is.asked.1 in
      let fit = is-in-range y ss s own is.inside in
      let less = span-few y law ss s own some fit in
      span-most s some (λ past. let u : ⊥ = omega (arith, fit, past) in u) (λ more. let u : ⊥ = omega (arith, less, few, more) in u) in
      let a = among-sum y law ss in
      let b = sum-le (λ s. stripes_among y (is_in s)) (most_of_span y) ss each in
      le-min (omega (arith, a, b)) few

  stripes-most : (op : Op) → IsInside y op → stripes_by y op ≤ most_stripes y op
  stripes-most (Write span pattern) is = span-most span is.asked is.inside is.short
  stripes-most (Writes patches) is =
      subst (λ (b : Bool). stripes_by y (Writes patches) ≤ (if b then 16 else min (sum_by (most_of_span y) (spans_of patches)) 16)) (sym (le-ltb 8 patches.used is.asked.0.few)) (all-most patches is)
  stripes-most (Read span) is = span-most span is.asked is.inside is.short
  stripes-most (Rebuild stripe) is = whole-least stripe is.inside
  stripes-most (Sync stripe) is = whole-least stripe is.inside

  spans-most : (op : Op) → IsInside y op → span_count op ≤ most_spans op
  spans-most (Write span pattern) is = omega arith
  spans-most (Writes patches) is = let few = is.asked.0.few in le-min (omega arith) few
  spans-most (Read span) is = omega arith
  spans-most (Rebuild stripe) is = omega arith
  spans-most (Sync stripe) is = omega arith

  -- more stripes and spans want no fewer buffers
  more-leased : (s t n m : ℕ) → s ≤ t → n ≤ m → lease_of y s n ≤ lease_of y t m
  more-leased s t n m st nm =
      let a : ℕ = (2 * data_units y + 2) * (s + 2 * n) in
      let b : (2 * data_units y + 2) * (s + 2 * n) ≤ (2 * data_units y + 2) * (t + 2 * m) = mul-le-mul_left (2 * data_units y + 2) (omega (arith, st, nm)) in
      let l = min-le_left 2048 a in
      let r = min-le_right 2048 a in
      le-min l (omega (arith, r, b))

  op-leases : (graphs : List Held) (op : Op) (file : Option ℕ) → IsInside y op → lease_for y graphs op file ≤ most_leased y graphs op file
  op-leases graphs op None is = more-leased (stripes_by y op) (most_stripes y op) (span_count op) (most_spans op) (stripes-most op is) (spans-most op is)
  op-leases graphs op (Some n) is = omega arith

  pub item-no-more : (graphs : List Held) (i : Item) → LeasesAtMost y graphs (item_leases y graphs (Some i)) i
  item-no-more graphs (item.Run op file) = λ is. op-leases graphs op file is
  item-no-more graphs (item.Fail column) = tt

  pub at-more : (graphs : List Held) (few many : ℕ) (i : Item) → few ≤ many → LeasesAtMost y graphs few i → LeasesAtMost y graphs many i
  at-more graphs few many (item.Run op file) le h = λ is. let a = h is in omega (arith, a, le)
  at-more graphs few many (item.Fail column) le h = tt

  pub row-no-more : (graphs : List Held) (items : List Item) (n : ℕ) (i : Item) → slice_get items n ≡ Some i → LeasesAtMost y graphs (row_leases y graphs items) i
  row-no-more graphs items n i at =
      let m = greatest-most (λ k. item_leases y graphs (slice_get items k)) n (length items) (slice_get_within items n i at) in
      let e : item_leases y graphs (slice_get items n) ≡ item_leases y graphs (Some i) = ap (item_leases y graphs) at in
      at-more graphs (item_leases y graphs (Some i)) (row_leases y graphs items) i (omega (arith, m, e)) (item-no-more graphs i)

  pub own-no-more : (graphs : List Held) (stripe : ℕ) → LeasesAtMost y graphs (own_leases y) (item.Run (Rebuild stripe) None)
  own-no-more graphs stripe = λ is. op-leases graphs (Rebuild stripe) None is

-- no items lease nothing
pub row-none : (y : Shape) (graphs : List Held) (items : List Item) → items ≡ [] → 0 ≡ row_leases y graphs items
row-none y graphs items is = greatest-none (λ k. item_leases y graphs (slice_get [] k)) ∙ ap (row_leases y graphs) (sym is)
