-- The stripes of some spans are counted from span to span.
use Rattle.std.specs.Prelude.{◌≡◌, ◌<◌, ◌≤◌, ◌+◌, ◌-◌, ℕ, zero, suc, Bool, true, false, List, max, nat_lt, Some, None}
use Rattle.std.proofs.Common.{arith, ap, subst, ◌∙◌, inl, inr}
use Rattle.std.proofs.lemmas.Bool.{cases_Bool, cases_lt, cond-true, cond-false, and_parts, and_from, ltb-true, lt-ltb}
use Rattle.blk_plain.specs.declared.op.Span.{Span}
use Rattle.blk_plain.specs.Plain.{is_in, is_in_some}
use Rattle.lay_core.specs.Layout.{Shape, IsLayout, blocks_in, block_of, stripe_of}
use Rattle.lay_core.specs.Touched.{HasBlock, count_below, has_block, stripes_among}
use Rattle.lay_core.specs.Joined.{IsNext}
use Rattle.lay_core.proofs.Numbering.{stripe_of-block_of}
use Rattle.lay_core.proofs.SpanSplit.{first_block, later_block, last_below}
use Rattle.lay_core.proofs.Joining.{stripe-up}
use Rattle.lay_core.proofs.Counting.{has-block-is, is-has-block}
use Rattle.lay_core.proofs.Walked.{Passed, of-some, span-in, nothing-before, all-passed}

-- ## Numbers that pass a test

pub count-most : (p : ℕ → Bool) (n : ℕ) → count_below p n ≤ n
count-most p zero = omega arith
count-most p (suc n) =
    let r = count-most p n in
    elim (cases_Bool (p n)) [
      | inl e ↦ let c = cond-true {A = ℕ} (p n) 1 0 e in omega (arith, c, r)
      | inr e ↦ let c = cond-false {A = ℕ} (p n) 1 0 e in omega (arith, c, r)
    ]

-- where none of the next passes, the count stays
pub count-none : (p : ℕ → Bool) (n m : ℕ) → n ≤ m → ((s : ℕ) → n ≤ s → s < m → p s ≡ false) → count_below p m ≡ count_below p n
count-none p n zero le none = ap (count_below p) (let e : 0 ≡ n = omega (arith, le) in e)
count-none p n (suc m) le none = elim (cases_lt m n) [
  | inl l ↦ ap (count_below p) (let e : suc m ≡ n = omega (arith, l, le) in e)
  | inr g ↦
      let c = cond-false {A = ℕ} (p m) 1 0 (none m g (omega arith)) in
      let r = count-none p n m g (λ s a b. none s a (omega (arith, b))) in
      omega (arith, c, r)
]

-- where each passes, it goes up by one for each
pub count-each : (p : ℕ → Bool) (n m : ℕ) → n ≤ m → ((s : ℕ) → n ≤ s → s < m → p s ≡ true) → count_below p m ≡ count_below p n + (m - n)
count-each p n zero le each = let e = ap (count_below p) (let z : 0 ≡ n = omega (arith, le) in z) in omega (arith, e)
count-each p n (suc m) le each = elim (cases_lt m n) [
  | inl l ↦ let e = ap (count_below p) (let z : suc m ≡ n = omega (arith, l, le) in z) in omega (arith, e, l)
  | inr g ↦
      let c = cond-true {A = ℕ} (p m) 1 0 (each m g (omega arith)) in
      let r = count-each p n m g (λ s a b. each s a (omega (arith, b))) in
      omega (arith, c, r, g)
]

-- ## From span to span

-- The stripes before this one are counted: those of the blocks before `at`, and no block behind is of a stripe before the last of them.
pub record IsCounted (y : Shape) (test : ℕ → Bool) (at next n : ℕ) : Type 0 where
  pub many : n ≡ count_below (has_block y test) next
  pub low : (b : ℕ) → b < at → stripe_of y b < next
  pub high : (b : ℕ) → at ≤ b → next ≤ stripe_of y b + 1
  pub within : next ≤ y.stripes

pub begin-count : (y : Shape) (test : ℕ → Bool) → IsCounted y test 0 0 0
begin-count y test = record {
  many = omega arith;
  low = λ b l. absurd (let u : ⊥ = omega (arith, l) in u);
  high = λ b l. omega arith;
  within = omega arith;
}

module _ (y : Shape) (law : IsLayout y) (ss : List Span) (at next n : ℕ) (w : IsCounted y (is_in_some ss) at next n) (passed : Passed ss at) where
  -- a stripe with no block of a span isn't counted
  free : (s : ℕ) → ((b : ℕ) → stripe_of y b ≡ s → is_in_some ss b ≡ true → ⊥) → has_block y (is_in_some ss) s ≡ false
  free s none = elim (cases_Bool (has_block y (is_in_some ss) s)) [
    | inl e ↦ let b = has-block-is y (is_in_some ss) s e in absurd (none (block_of y s b.0 b.1) (stripe_of-block_of y law s b.0 b.1 b.2 b.3) b.4)
    | inr e ↦ e
  ]

  pub end-count : IsNext at ss None → n ≡ stripes_among y (is_in_some ss)
  unfolding stripes_among
  end-count none =
      let c = count-none (has_block y (is_in_some ss)) next y.stripes w.within (λ s a l. free s (λ b is t.
      let passed_ = all-passed ss at passed none b ∙ t in
      let lt = w.low b (ltb-true b at (and_parts (is_in_some ss b) (nat_lt b at) passed_).1) in
      let u : ⊥ = omega (arith, lt, is, a) in u)) in
      let m = w.many in
      omega (arith, c, m)

  module _ (span : Span) (is : IsNext at ss (Some span)) (some : 1 ≤ span.count) (fits : span.first + span.count ≤ blocks_in y) where
    abbrev first : ℕ
    first = stripe_of y span.first

    abbrev last : ℕ
    last = stripe_of y (span.first + span.count - 1)

    up : first ≤ last
    up = stripe-up y law span.first (span.first + span.count - 1) (omega (arith, some))

    pub later : next ≤ last + 1
    later = let l = is.1 in w.high (span.first + span.count - 1) (omega (arith, l, some))

    pub below : last < y.stripes
    below = last_below y law span some fits

    gap : (s : ℕ) → next ≤ s → s < first → has_block y (is_in_some ss) s ≡ false
    gap s a l = free s (λ b of_ t. elim (cases_lt b span.first) [
      | inl less ↦
          let early = nothing-before ss at span passed is b ∙ and_from (is_in_some ss b) (nat_lt b span.first) t (lt-ltb b span.first less) in
          let lt = w.low b (ltb-true b at (and_parts (is_in_some ss b) (nat_lt b at) early).1) in
          let u : ⊥ = omega (arith, lt, of_, a) in u
      | inr more ↦ let z = stripe-up y law span.first b more in let u : ⊥ = omega (arith, z, of_, l) in u
    ])

    each : (s : ℕ) → first ≤ s → s < last + 1 → has_block y (is_in_some ss) s ≡ true
    each s a l = is-has-block y (is_in_some ss) s (wider (elim (cases_lt first s) [
      | inl later ↦ later_block y law span some fits s later (omega (arith, l))
      | inr here ↦ subst (HasBlock y (is_in span)) (let e : first ≡ s = omega (arith, here, a) in e) (first_block y law span some fits)
    ]))
      where
        wider : HasBlock y (is_in span) s → HasBlock y (is_in_some ss) s
        wider (i, o, hi, ho, t) = let r = span-in span (block_of y s i o) t in (i, o, hi, ho, of-some ss span is.0 (block_of y s i o) r.0 r.1)

    module _ (from : ℕ) (from-is : from ≡ max first next) where
      pub behind : from ≤ last + 1
      behind = let a = up in let b = later in omega (arith, from-is, a, b)

      counted : count_below (has_block y (is_in_some ss)) (last + 1) ≡ count_below (has_block y (is_in_some ss)) next + (last + 1 - from)
      counted =
          let p = has_block y (is_in_some ss) in
          let none = count-none p next from (omega (arith, from-is)) (λ s a l. gap s a (omega (arith, a, l, from-is))) in
          let all = count-each p from (last + 1) behind (λ s a l. each s (omega (arith, a, from-is)) l) in
          omega (arith, none, all)

      pub is-counted : IsCounted y (is_in_some ss) (span.first + span.count) (last + 1) (n + (last + 1 - from))
      is-counted = record {
        many = let m = w.many in let c = counted in omega (arith, m, c);
        low = λ b l. let z = stripe-up y law b (span.first + span.count - 1) (omega (arith, l)) in omega (arith, z);
        high = λ b l. let z = stripe-up y law (span.first + span.count - 1) b (omega (arith, l)) in omega (arith, z);
        within = let z = below in omega (arith, z);
      }

      pub is-few : n + (last + 1 - from) ≤ 1048576
      is-few =
          let m = is-counted.many in
          let c = count-most (has_block y (is_in_some ss)) (last + 1) in
          let b = below in
          let f = law.stripes_most in
          omega (arith, m, c, b, f)
