-- What a span is split into, and the stripe whose whole span it is.
use Rattle.std.proofs.Common.{◌≡◌, ℕ, suc, ◌+◌, ◌-◌, ◌*◌, ◌/◌, ◌<◌, ◌≤◌, true, List, [], ◌∷◌, arith, length, get_or, map, ap, sym, refl, ◌∙◌, inl, inr}
use Rattle.std.specs.Prelude.{◌||◌, Bool, false, All, Contains}
use Rattle.std.proofs.lemmas.Bool.{cases_lt, and_from, le-leb, lt-ltb}
use Rattle.std.proofs.lemmas.List.{length-map}
use Rattle.blk_plain.specs.declared.op.Patches.{Patches}
use Rattle.blk_plain.specs.Plain.{AreSound, is_in, is_in_some, used_of, spans_of}
use Rattle.blk_plain.specs.declared.op.Op.{Op}
use Rattle.blk_plain.specs.declared.op.Op.TheVariants.{Write, Writes, Read, Rebuild, Sync}
use Rattle.std.proofs.Math.Nat.{div-mul-le_self, mul-le-mul_left, mul_assoc, mul-le-mul_right, suc-mul, add-mul}
use Rattle.std.proofs.lemmas.Nat.{le-div}
use Rattle.blk_plain.specs.declared.op.Span.{Span}
use Rattle.lay_core.specs.Layout.{Shape, IsLayout, data_units, stripe_of, block_of, blocks_in}
use Rattle.lay_core.specs.Touched.{Touched, IsSplit, IsSpanSplit, PassesEnd, PassesEndSome, stripe_count}
use Rattle.lay_core.proofs.Numbering.{stripe_of-block_of}
use Rattle.graph_mean.specs.Task.{IsMapOf}
use Rattle.lay_core.proofs.Counting.{split-count}
use Rattle.lay_core.proofs.NextSpan.{spans-most}
use Rattle.lay_core.proofs.Walked.{is-some-count, is-in-range, of-some, split-some, split-same}
use Rattle.eng_world.specs.Planning.{span_count}
use Rattle.eng_plan.specs.Asked.{whole, HasBlocks, blocks_by, spans_by, stripes_by, IsInside, IsOpSplit}

div-le : (a b k : ℕ) → 0 < k → a ≤ b → a / k ≤ b / k
div-le a b k h l = let q : a / k * k ≤ a = div-mul-le_self a k in le-div (a / k) b k h (omega arith)

-- the span of a whole stripe
module _ (y : Shape) (law : IsLayout y) (s : ℕ) (hs : s < y.stripes) where
  abbrev pub count : ℕ
  count = data_units y * y.unit_sectors

  abbrev pub first : ℕ
  first = s * (data_units y * y.unit_sectors)

  pub whole-fits : first + count ≤ blocks_in y
  whole-fits =
      let all : y.stripes * count ≡ y.stripes * data_units y * y.unit_sectors = sym (mul_assoc y.stripes (data_units y) y.unit_sectors) in
      let a = mul-le-mul_right count hs in
      let b = suc-mul s count in
      omega (arith, all, a, b)

  least : s * data_units y * y.unit_sectors ≡ first
  least = mul_assoc s (data_units y) y.unit_sectors

  pub whole-first : stripe_of y first ≡ s
  whole-first =
      let plain : (s * data_units y + 0) * y.unit_sectors ≡ s * data_units y * y.unit_sectors = let q : s * data_units y + 0 ≡ s * data_units y = omega arith in ap (λ (n : ℕ). n * y.unit_sectors) q in
      let is : block_of y s 0 0 ≡ first = omega (arith, plain, least) in
      ap (λ (b : ℕ). stripe_of y b) (sym is) ∙ stripe_of-block_of y law s 0 0 (let c = law.checks_below in omega (arith, c)) (let u = law.unit_least in omega (arith, u))

  rest : (data_units y - 1) * y.unit_sectors + y.unit_sectors ≡ count
  rest =
      let c = law.checks_below in
      let one : suc (data_units y - 1) ≡ data_units y = omega (arith, c) in
      sym (suc-mul (data_units y - 1) y.unit_sectors) ∙ ap (λ (n : ℕ). n * y.unit_sectors) one

  pub whole-some : 1 ≤ count
  whole-some = let r = rest in let u = law.unit_least in omega (arith, r, u)

  whole-last : stripe_of y (first + count - 1) ≡ s
  whole-last =
      let c = law.checks_below in
      let some : 0 < data_units y = omega (arith, c) in
      let parts = add-mul (s * data_units y) (data_units y - 1) y.unit_sectors in
      let unit = law.unit_least in
      let is : block_of y s (data_units y - 1) (y.unit_sectors - 1) ≡ first + count - 1 = omega (arith, parts, rest, least, unit) in
      ap (λ (b : ℕ). stripe_of y b) (sym is) ∙ stripe_of-block_of y law s (data_units y - 1) (y.unit_sectors - 1) (omega (arith, some)) (omega (arith, unit))

  pub whole-one : stripe_count y (whole y s) ≡ 1
  whole-one = let a = whole-first in let b = whole-last in omega (arith, a, b)

  -- each block of the stripe is one of the span
  pub whole-has : (i o : ℕ) → i < data_units y → o < y.unit_sectors → (first ≤ block_of y s i o) × (block_of y s i o < first + count)
  whole-has i o hi ho =
      let parts = add-mul (s * data_units y) i y.unit_sectors in
      let up = mul-le-mul_right y.unit_sectors hi in
      let more = suc-mul i y.unit_sectors in
      (omega (arith, parts, least), omega (arith, parts, least, up, more, ho))

  -- and a block of the span one of the stripe
  pub whole-only : (t i o : ℕ) → i < data_units y → o < y.unit_sectors → first ≤ block_of y t i o → block_of y t i o < first + count → t ≡ s
  whole-only t i o hi ho low high =
      let u = law.unit_least in
      let c = law.checks_below in
      let a : stripe_of y first ≤ stripe_of y (block_of y t i o) = div-le (first / y.unit_sectors) (block_of y t i o / y.unit_sectors) (data_units y) (omega (arith, c)) (div-le first (block_of y t i o) y.unit_sectors (omega (arith, u)) low) in
      let b : stripe_of y (block_of y t i o) ≤ stripe_of y (first + count - 1) = div-le (block_of y t i o / y.unit_sectors) ((first + count - 1) / y.unit_sectors) (data_units y) (omega (arith, c)) (div-le (block_of y t i o) (first + count - 1) y.unit_sectors (omega (arith, u)) (omega (arith, high))) in
      let is = stripe_of-block_of y law t i o hi ho in
      let f = whole-first in
      let l = whole-last in
      omega (arith, a, b, is, f, l)

pub not-past : (s n : ℕ) → (n ≤ s → ⊥) → s < n
not-past s n h = elim (cases_lt s n) [ inl l ↦ l | inr past ↦ absurd (h past) ]

at-most : (n : ℕ) → (16 < n → ⊥) → n ≤ 16
at-most n h = elim (cases_lt 16 n) [ inl l ↦ absurd (h l) | inr few ↦ few ]

-- ## What an operation is split into

alone : (b : Bool) → b ≡ (b || false)
alone true = refl
alone false = refl

module _ (y : Shape) (law : IsLayout y) where
  span-one : (span : Span) → 1 ≤ span.count → (PassesEnd y span → ⊥) → (b : ℕ) × (b < blocks_in y) × (is_in span b ≡ true)
  span-one span some fits =
      let low = le-leb span.first span.first (omega arith) in
      let high = lt-ltb span.first (span.first + span.count) (omega (arith, some)) in
      elim (cases_lt (blocks_in y) (span.first + span.count)) [
        | inl past ↦ absurd (fits past)
        | inr h ↦ (span.first, omega (arith, h, some), and_from _ _ low high)
      ]

  pub whole-inside : (s : ℕ) → s < y.stripes → PassesEnd y (whole y s) → ⊥
  whole-inside s hs past = let f = whole-fits y law s hs in omega (arith, f, past)

  spans-one : (patches : Patches) → AreSound patches → All (λ s. 1 ≤ s.count) (spans_of patches) → (PassesEndSome y (spans_of patches) → ⊥) → (b : ℕ) × (b < blocks_in y) × (is_in_some (spans_of patches) b ≡ true)
  spans-one patches sound all fits = by (spans_of patches) refl
    where
      by : (ss : List Span) → spans_of patches ≡ ss → (b : ℕ) × (b < blocks_in y) × (is_in_some (spans_of patches) b ≡ true)
      by [] e = absurd (let n = ap length e in let m = length-map (used_of patches) (λ p. p.span) in let l = sound.some in let u : ⊥ = omega (arith, n, m, l) in u)
      by (s ∷ ss) e =
          let n = ap length e in
          let l : 0 < length (spans_of patches) = omega (arith, n) in
          let own : Contains (spans_of patches) s = (0, l, ap (λ (xs : List Span). get_or xs 0 s) e) in
          let some = is-some-count (spans_of patches) s own all in
          let h = is-in-range y (spans_of patches) s own fits in
          (s.first, omega (arith, h, some), of-some (spans_of patches) s own s.first (omega arith) (omega (arith, some)))

  -- it touches a block in range
  one-block : (op : Op) → IsInside y op → (b : ℕ) × (b < blocks_in y) × (blocks_by y op b ≡ true)
  one-block (Write span pattern) is = span-one span is.asked is.inside
  one-block (Writes patches) is = spans-one patches is.asked.0 is.asked.1 is.inside
  one-block (Read span) is = span-one span is.asked is.inside
  one-block (Rebuild stripe) is = let hs = not-past stripe y.stripes is.inside in span-one (whole y stripe) (whole-some y law stripe hs) (whole-inside stripe hs)
  one-block (Sync stripe) is = let hs = not-past stripe y.stripes is.inside in span-one (whole y stripe) (whole-some y law stripe hs) (whole-inside stripe hs)

  -- so its map is one for a task
  pub inside-map : (op : Op) (map : Touched) → IsInside y op → IsOpSplit y op map → IsMapOf y map
  inside-map op map is split =
      let b = one-block op is in
      record {
        some = split-some y law (blocks_by y op) map b.0 split.split b.1 b.2;
        stripes_most = split.stripes_few;
        stripes_within = split.split.stripes_within;
        parts_most = split.parts_few;
        parts_within = split.split.parts_within;
      }

  -- a map of one span has few parts
  pub span-parts : (span : Span) (map : Touched) → stripe_count y span ≤ 16 → IsSpanSplit y span map → length map.parts ≤ 520
  span-parts span map few s =
      let n = s.stripes_many in
      let w = law.width_most in
      let c = law.columns_most in
      let d : data_units y ≤ 32 = omega (arith, w, c) in
      let k : length map.stripes ≤ 16 = omega (arith, n, few) in
      let p : length map.stripes * data_units y ≤ length map.stripes * 32 = mul-le-mul_left (length map.stripes) d in
      let l = s.parts_few in
      omega (arith, l, p, k)

  -- it has as many stripes as have one of its blocks
  pub op-count : (op : Op) (map : Touched) → IsOpSplit y op map → length map.stripes ≡ stripes_by y op
  op-count op map s = split-count y (blocks_by y op) map s.split

  -- a map of one span is that of an operation of its blocks
  pub span-split : (span : Span) (map : Touched) → stripe_count y span ≤ 16 → IsSpanSplit y span map → IsSplit y (is_in span) map × (length map.stripes ≤ 16) × (length map.parts ≤ 520)
  span-split span map few s = (s.split, (let n = s.stripes_many in omega (arith, n, few)), span-parts span map few s)

  -- its blocks are those of its spans, of which there are few
  pub op-spans : (op : Op) (map : Touched) → IsSplit y (blocks_by y op) map → IsSplit y (is_in_some (spans_by y op)) map
  op-spans (Write span pattern) map s = split-same y (is_in span) (is_in_some (span ∷ [])) map (λ b. alone (is_in span b)) s
  op-spans (Writes patches) map s = s
  op-spans (Read span) map s = split-same y (is_in span) (is_in_some (span ∷ [])) map (λ b. alone (is_in span b)) s
  op-spans (Rebuild stripe) map s = split-same y (is_in (whole y stripe)) (is_in_some (whole y stripe ∷ [])) map (λ b. alone (is_in (whole y stripe) b)) s
  op-spans (Sync stripe) map s = split-same y (is_in (whole y stripe)) (is_in_some (whole y stripe ∷ [])) map (λ b. alone (is_in (whole y stripe) b)) s

  pub spans-few : (op : Op) → length (spans_by y op) ≤ span_count op
  spans-few (Write span pattern) = omega arith
  spans-few (Writes patches) = spans-most patches
  spans-few (Read span) = omega arith
  spans-few (Rebuild stripe) = omega arith
  spans-few (Sync stripe) = omega arith

  pub spans-eight : (op : Op) → HasBlocks op → span_count op ≤ 8
  spans-eight (Write span pattern) h = omega arith
  spans-eight (Writes patches) h = h.0.few
  spans-eight (Read span) h = omega arith
  spans-eight (Rebuild stripe) h = omega arith
  spans-eight (Sync stripe) h = omega arith
