-- How many stripes a span touches.
use Rattle.std.proofs.Common.{◌≡◌, ◌⊎◌, ◌↔◌, ℕ, zero, suc, ◌<◌, ◌≤◌, ◌+◌, ◌-◌, ◌*◌, ◌/◌, ◌%◌, Bool, true, nat_le, nat_lt, List, [], ◌∷◌, length, get_or, subst, sym, ap, ◌∙◌, arith, inl, inr, refl, sum_by}
use Rattle.std.specs.Prelude.{Contains}
use Rattle.std.specs.List.{range_with_len}
use Rattle.std.proofs.Math.Nat.{add-mul-div_right, div-div-eq-div-mul, mod-add-div', mul_comm, mul-le-mul_right}
use Rattle.std.proofs.lemmas.Bool.{cases_Bool, cases_lt, cond-true, cond-false, and_parts, ltb-true}
use Rattle.std.proofs.lemmas.List.Folds.{Any-from_list_any}
use Rattle.std.proofs.lemmas.List.Sums.{sum_by-cons}
use Rattle.blk_plain.specs.declared.op.Span.{Span}
use Rattle.blk_plain.specs.Plain.{is_in, is_in_some}
use Rattle.lay_core.specs.Layout.{Shape, IsLayout, data_units, blocks_in, block_of, stripe_of}
use Rattle.lay_core.specs.Touched.{Touched, IsSpanSplit, PassesEnd, HasBlock, count_below, has_block, stripe_count, stripes_among}
use Rattle.lay_core.specs.Cut.{cut_of, first_unit, unit_count, parts_from}
use Rattle.lay_core.proofs.Numbering.{stripe_of-block_of, stripe_of-below}
use Rattle.lay_core.proofs.Quotients.{div-le-div}
use Rattle.lay_core.proofs.SpanSplit.{is_split, first_block, later_block, last_below, stripes_to}
use Rattle.lay_core.proofs.Counting.{split-count, has-block-is, is-has-block}
use Rattle.lay_core.proofs.Counted.{count-each}
use Rattle.lay_core.proofs.Joining.{stripe-up}
use Rattle.lay_core.proofs.Walked.{of-some, span-in}
use Rattle.eng_plan.specs.Asked.{whole}
use Rattle.eng_plan.specs.Pooled.{stripe_blocks}
use Rattle.eng_plan.proofs.Maps.{whole-one, whole-some, whole-inside}

not-over : (a b : ℕ) → (a < b → ⊥) → b ≤ a
not-over a b h = elim (cases_lt a b) [ inl past ↦ absurd (h past) | inr fits ↦ fits ]

pub short-few : (n : ℕ) → (16 < n → ⊥) → n ≤ 16
short-few n short = not-over 16 n short

module _ (y : Shape) (law : IsLayout y) (span : Span) (some : 1 ≤ span.count) (inside : PassesEnd y span → ⊥) where
  pub fits : span.first + span.count ≤ blocks_in y
  fits = not-over (blocks_in y) (span.first + span.count) inside

  -- a block of the span is of a stripe in range
  pub block-stripe : (s : ℕ) → HasBlock y (is_in span) s → s < y.stripes
  block-stripe s (i, o, hi, ho, t) =
      let b = block_of y s i o in
      let high : b < span.first + span.count = ltb-true b (span.first + span.count) (and_parts (nat_le span.first b) (nat_lt b (span.first + span.count)) t).1 in
      let is = stripe_of-block_of y law s i o hi ho in
      let all = fits in
      let below = stripe_of-below y law b (omega (arith, high, all)) in
      omega (arith, is, below)

  pub upwards : stripe_of y span.first ≤ stripe_of y (span.first + (span.count - 1))
  upwards =
      let units = law.checks_below in
      let sectors = law.unit_least in
      let f = span.first in
      let l = span.first + (span.count - 1) in
      div-le-div (f / y.unit_sectors) (l / y.unit_sectors) (data_units y) (omega (arith, units)) (div-le-div f l y.unit_sectors sectors (omega arith))

  pub counted : stripe_of y (span.first + (span.count - 1)) - stripe_of y span.first + 1 ≡ stripe_count y span
  counted =
      let up = upwards in
      let e = ap (stripe_of y) (let z : span.first + (span.count - 1) ≡ span.first + span.count - 1 = omega (arith, some) in z) in
      omega (arith, up, e)

  module _ (few : stripe_count y span ≤ 16) where
    abbrev split : Touched
    split = record {
      stripes = range_with_len (stripe_of y span.first) (stripe_count y span);
      parts = parts_from (cut_of y span) (first_unit (cut_of y span)) (unit_count (cut_of y span));
    }

    is-split : IsSpanSplit y span split
    is-split = is_split y law span some fits few

    -- its numbers are those of its stripes
    pub span-each : (s : ℕ) → Contains (range_with_len (stripe_of y span.first) (stripe_count y span)) s ↔ HasBlock y (is_in span) s
    span-each s = (
      λ c. (is-split.split.stripes_touched s (let all = is-split.split.stripes_within in subst (λ (t : ℕ). t < y.stripes) c.2 (all c.0 s c.1))).0 c,
      λ h. (is-split.split.stripes_touched s (block-stripe s h)).1 h,
    )

    pub span-many : stripe_count y span ≡ stripes_among y (is_in span)
    span-many = sym is-split.stripes_many ∙ split-count y (is_in span) split is-split.split

-- the number of the one stripe of a whole span
pub whole-many : (y : Shape) (law : IsLayout y) (s : ℕ) → s < y.stripes → 1 ≡ stripes_among y (is_in (whole y s))
whole-many y law s below =
    let one = whole-one y law s below in
    sym one ∙ span-many y law (whole y s) (whole-some y law s below) (whole-inside y law s below) (omega (arith, one))

-- ## The stripes of some spans

-- below a later number no fewer pass
count-up : (p : ℕ → Bool) (n m : ℕ) → n ≤ m → count_below p n ≤ count_below p m
count-up p n zero le = let e = ap (count_below p) (let z : n ≡ 0 = omega (arith, le) in z) in omega (arith, e)
count-up p n (suc m) le = elim (cases_lt m n) [
  | inl l ↦ let e = ap (count_below p) (let z : suc m ≡ n = omega (arith, l, le) in z) in omega (arith, e)
  | inr g ↦
      let r = count-up p n m g in
      elim (cases_Bool (p m)) [
        | inl e ↦ let c = cond-true {A = ℕ} (p m) 1 0 e in omega (arith, c, r)
        | inr e ↦ let c = cond-false {A = ℕ} (p m) 1 0 e in omega (arith, c, r)
      ]
]

module _ (y : Shape) (law : IsLayout y) (ss : List Span) (span : Span) (own : Contains ss span) where
  -- a stripe of one of them is one of them all
  pub own-block : (s : ℕ) → HasBlock y (is_in span) s → HasBlock y (is_in_some ss) s
  own-block s (i, o, hi, ho, t) = let r = span-in span (block_of y s i o) t in (i, o, hi, ho, of-some ss span own (block_of y s i o) r.0 r.1)

  module _ (some : 1 ≤ span.count) (fit : span.first + span.count ≤ blocks_in y) where
    abbrev last : ℕ
    last = stripe_of y (span.first + span.count - 1)

    each : (s : ℕ) → stripe_of y span.first ≤ s → s < last + 1 → has_block y (is_in_some ss) s ≡ true
    each s a l = is-has-block y (is_in_some ss) s (own-block s (elim (cases_lt (stripe_of y span.first) s) [
      | inl later ↦ later_block y law span some fit s later (omega (arith, l))
      | inr here ↦ subst (HasBlock y (is_in span)) (let e : stripe_of y span.first ≡ s = omega (arith, here, a) in e) (first_block y law span some fit)
    ]))

    -- so it has no more stripes than all together
    pub span-few : stripe_count y span ≤ stripes_among y (is_in_some ss)
    unfolding stripes_among
    span-few =
        let p = has_block y (is_in_some ss) in
        let to = stripes_to y law span some fit in
        let below = last_below y law span some fit in
        let up = stripe-up y law span.first (span.first + span.count - 1) (omega (arith, some)) in
        let c = count-each p (stripe_of y span.first) (last + 1) (omega (arith, up)) each in
        let m = count-up p (last + 1) y.stripes (omega (arith, below)) in
        omega (arith, c, m, to, up)

pub some-block : (y : Shape) (ss : List Span) (s : ℕ) → HasBlock y (is_in_some ss) s → (span : Span) × Contains ss span × HasBlock y (is_in span) s
some-block y ss s (i, o, hi, ho, t) = let a = Any-from_list_any (λ span. is_in span (block_of y s i o)) ss t in (a.1, (a.0, a.2, a.3), (i, o, hi, ho, a.4))

-- where one of two others passes wherever one does, it is no more often than they together
count-split : (p q r : ℕ → Bool) (n : ℕ) → ((s : ℕ) → p s ≡ true → (q s ≡ true) ⊎ (r s ≡ true)) → count_below p n ≤ count_below q n + count_below r n
count-split p q r zero h = omega arith
count-split p q r (suc n) h =
    let c = count-split p q r n h in
    let u = count-up q n (suc n) (omega arith) in
    let v = count-up r n (suc n) (omega arith) in
    elim (cases_Bool (p n)) [
      | inl e ↦
          let a = cond-true {A = ℕ} (p n) 1 0 e in
          elim (h n e) [
            | inl f ↦ let b = cond-true {A = ℕ} (q n) 1 0 f in omega (arith, a, b, c, v)
            | inr f ↦ let b = cond-true {A = ℕ} (r n) 1 0 f in omega (arith, a, b, c, u)
          ]
      | inr e ↦ let a = cond-false {A = ℕ} (p n) 1 0 e in omega (arith, a, c, u, v)
    ]

-- and none where it never passes
count-none : (p : ℕ → Bool) (n : ℕ) → ((s : ℕ) → p s ≡ true → ⊥) → count_below p n ≡ 0
count-none p zero h = refl
count-none p (suc n) h = elim (cases_Bool (p n)) [
  | inl e ↦ absurd (h n e)
  | inr e ↦ let a = cond-false {A = ℕ} (p n) 1 0 e in let b = count-none p n h in omega (arith, a, b)
]

-- some spans touch no more stripes than each by itself, all together
module _ (y : Shape) (law : IsLayout y) where
  one-or : (s : Span) (ss : List Span) (t : ℕ) (span : Span) → HasBlock y (is_in span) t → (k : ℕ) → k < length (s ∷ ss) → get_or (s ∷ ss) k span ≡ span → (has_block y (is_in s) t ≡ true) ⊎ (has_block y (is_in_some ss) t ≡ true)
  one-or s ss t span b zero l e = inl (is-has-block y (is_in s) t (subst (λ (q : Span). HasBlock y (is_in q) t) (sym e) b))
  one-or s ss t span b (suc k) l e = inr (is-has-block y (is_in_some ss) t (own-block y law ss span (k, omega (arith, l), e) t b))

  pub among-sum : (ss : List Span) → stripes_among y (is_in_some ss) ≤ sum_by (λ s. stripes_among y (is_in s)) ss
  unfolding stripes_among
  among-sum [] =
      let none = count-none (has_block y (is_in_some [])) y.stripes (λ t h. let b = some-block y [] t (has-block-is y (is_in_some []) t h) in let l = b.1.1 in let u : ⊥ = omega (arith, l) in u) in
      omega (arith, none)
  among-sum (s ∷ ss) =
      let c : stripes_among y (is_in_some (s ∷ ss)) ≤ stripes_among y (is_in s) + stripes_among y (is_in_some ss) = count-split (has_block y (is_in_some (s ∷ ss))) (has_block y (is_in s)) (has_block y (is_in_some ss)) y.stripes (λ t h. let b = some-block y (s ∷ ss) t (has-block-is y (is_in_some (s ∷ ss)) t h) in one-or s ss t b.0 b.2 b.1.0 b.1.1 b.1.2) in
      let r = among-sum ss in
      let all : sum_by (λ q. stripes_among y (is_in q)) (s ∷ ss) ≡ stripes_among y (is_in s) + sum_by (λ q. stripes_among y (is_in q)) ss = sum_by-cons (λ q. stripes_among y (is_in q)) s ss in
      omega (arith, c, r, all)

pub sum-le : (f g : Span → ℕ) (ss : List Span) → ((s : Span) → Contains ss s → f s ≤ g s) → sum_by f ss ≤ sum_by g ss
sum-le f g [] each = omega arith
sum-le f g (s ∷ ss) each =
    let a = each s (0, omega arith, refl) in
    let b = sum-le f g ss (λ t c. each t (suc c.0, (let l = c.1 in omega (arith, l)), c.2)) in
    let all = sum_by-cons f s ss in
    let most = sum_by-cons g s ss in
    omega (arith, a, b, all, most)

-- ## By the blocks of a stripe

module _ (y : Shape) (law : IsLayout y) where
  abbrev k : ℕ
  k = stripe_blocks y

  some-blocks : 0 < k
  some-blocks = let units = law.checks_below in let least = law.unit_least in let m = mul-le-mul_right y.unit_sectors (let d : 1 ≤ data_units y = omega (arith, units) in d) in omega (arith, m, least)

  stripe-by : (b : ℕ) → stripe_of y b ≡ b / k
  stripe-by b = div-div-eq-div-mul b y.unit_sectors (data_units y) ∙ ap (λ (n : ℕ). b / n) (mul_comm y.unit_sectors (data_units y))

  -- so many stripes the span has, wherever it stands
  pub span-stripes : (span : Span) → 1 ≤ span.count → stripe_count y span ≡ (span.first % k + span.count + k - 1) / k
  span-stripes span some =
      let q : ℕ = span.first / k in
      let r : ℕ = span.first % k in
      let x : ℕ = r + (span.count - 1) in
      let pos = some-blocks in
      let parts : r + q * k ≡ span.first = mod-add-div' span.first k in
      let last : span.first + span.count - 1 ≡ x + q * k = omega (arith, parts, some) in
      let a : stripe_of y (span.first + span.count - 1) ≡ x / k + q = stripe-by (span.first + span.count - 1) ∙ (ap (λ (n : ℕ). n / k) last ∙ add-mul-div_right x q pos) in
      let b : stripe_of y span.first ≡ q = stripe-by span.first in
      let more : r + span.count + k - 1 ≡ x + 1 * k = omega (arith, some, pos) in
      let c : (r + span.count + k - 1) / k ≡ x / k + 1 = ap (λ (n : ℕ). n / k) more ∙ add-mul-div_right x 1 pos in
      omega (arith, a, b, c)
