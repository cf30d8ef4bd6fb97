-- How many stripes have a block that passes a test.
use Rattle.std.specs.Prelude.{◌≡◌, ◌<◌, ◌≤◌, ◌||◌, ℕ, zero, suc, Bool, true, false, List, length}
use Rattle.std.specs.List.Sorted.{IsStrictlyIncreasing}
use Rattle.std.proofs.Common.{arith, ap, sym, ◌∙◌, inl, inr, get_or}
use Rattle.std.proofs.lemmas.Bool.{cases_Bool, cases_lt, cond-true, cond-false}
use Rattle.std.proofs.lemmas.List.{get_or_default}
use Rattle.std.proofs.lemmas.List.Kept.{AllPairs-from_increasing}
use Rattle.lay_core.specs.Layout.{Shape, data_units, block_of}
use Rattle.lay_core.specs.Touched.{Touched, HasBlock, IsSplit, any_below, count_below, has_block, stripes_among}

any-has : (p : ℕ → Bool) (n : ℕ) → any_below p n ≡ true → (i : ℕ) × (i < n) × (p i ≡ true)
any-has p zero h = let z : false ≡ true = h in absurd (let u : ⊥ = cc in u)
any-has p (suc n) h = elim (cases_Bool (p n)) [
  | inl e ↦ (n, omega arith, e)
  | inr e ↦ let r = any-has p n (sym (ap (λ b. b || any_below p n) e) ∙ h) in (r.0, let l = r.1 in omega (arith, l), r.2)
]

has-any : (p : ℕ → Bool) (n i : ℕ) → i < n → p i ≡ true → any_below p n ≡ true
has-any p zero i l h = absurd (omega (arith, l))
has-any p (suc n) i l h = elim (cases_Bool (p n)) [
  | inl e ↦ ap (λ b. b || any_below p n) e
  | inr e ↦ ap (λ b. b || any_below p n) e ∙ elim (cases_lt i n) [
    | inl k ↦ has-any p n i k h
    | inr k ↦ let same : i ≡ n = omega (arith, l, k) in absurd (let z : true ≡ false = sym h ∙ (ap p same ∙ e) in let u : ⊥ = cc in u)
  ]
]

pub has-block-is : (y : Shape) (test : ℕ → Bool) (s : ℕ) → has_block y test s ≡ true → HasBlock y test s
unfolding has_block
has-block-is y test s h =
    let i = any-has (λ i. any_below (λ o. test (block_of y s i o)) y.unit_sectors) (data_units y) h in
    let o = any-has (λ o. test (block_of y s i.0 o)) y.unit_sectors i.2 in
    (i.0, o.0, i.1, o.1, o.2)

pub is-has-block : (y : Shape) (test : ℕ → Bool) (s : ℕ) → HasBlock y test s → has_block y test s ≡ true
unfolding has_block
is-has-block y test s (i, o, hi, ho, t) = has-any (λ i. any_below (λ o. test (block_of y s i o)) y.unit_sectors) (data_units y) i hi (has-any (λ o. test (block_of y s i o)) y.unit_sectors o ho t)

-- ## Counting by a list in ascending order

module _ (p : ℕ → Bool) (xs : List ℕ) (up : IsStrictlyIncreasing xs) where
  below-next : (j k : ℕ) → j < k → k < length xs → get_or xs j 0 < get_or xs k 0
  below-next j k l h = AllPairs-from_increasing xs up j k 0 l h

  -- numbers of the list that pass are at most as many as there are
  pub at-least : (n m : ℕ) → m ≤ length xs → ((k : ℕ) → k < m → get_or xs k 0 < n) → ((k : ℕ) → k < length xs → p (get_or xs k 0) ≡ true) → m ≤ count_below p n
  at-least n zero le less passes = omega arith
  at-least zero (suc m) le less passes = absurd (let l = less 0 (omega arith) in let u : ⊥ = omega (arith, l) in u)
  at-least (suc n) (suc m) le less passes = elim (cases_lt (get_or xs m 0) n) [
    | inl l ↦
        let more = at-least n (suc m) le (λ k h. elim (cases_lt k m) [
          | inl j ↦ let b = below-next k m j (omega (arith, le)) in omega (arith, b, l)
          | inr j ↦ let e : k ≡ m = omega (arith, h, j) in let v = ap (λ (z : ℕ). get_or xs z 0) e in omega (arith, v, l)
        ]) passes in
        elim (cases_Bool (p n)) [
          | inl e ↦ let c = cond-true {A = ℕ} (p n) 1 0 e in omega (arith, more, c)
          | inr e ↦ let c = cond-false {A = ℕ} (p n) 1 0 e in omega (arith, more, c)
        ]
    | inr l ↦
        let q = less m (omega arith) in
        let e : get_or xs m 0 ≡ n = omega (arith, l, q) in
        let more = at-least n m (omega (arith, le)) (λ k h. let b = below-next k m h (omega (arith, le)) in omega (arith, b, e)) passes in
        let c = cond-true {A = ℕ} (p n) 1 0 (ap p (sym e) ∙ passes m (omega (arith, le))) in
        omega (arith, more, c)
  ]

  -- and where each that passes is of the list, there are no more
  pub at-most : (n m : ℕ) → m ≤ length xs → ((v : ℕ) → v < n → p v ≡ true → (k : ℕ) × (k < m) × (get_or xs k 0 ≡ v)) → count_below p n ≤ m
  at-most zero m le has = omega arith
  at-most (suc n) m le has = elim (cases_Bool (p n)) [
    | inl e ↦
        let at = has n (omega arith) e in
        let km = at.1 in
        let is = at.2 in
        let less = at-most n at.0 (omega (arith, le, km)) (λ v l t.
        let w = has v (omega (arith, l)) t in
        let wv = w.2 in
        elim (cases_lt w.0 at.0) [
          | inl lt ↦ (w.0, lt, w.2)
          | inr ge ↦ elim (cases_lt at.0 w.0) [
            | inl lt ↦ let wm = w.1 in let b = below-next at.0 w.0 lt (omega (arith, wm, le)) in absurd (let u : ⊥ = omega (arith, b, is, wv, l) in u)
            | inr le' ↦ let same : w.0 ≡ at.0 = omega (arith, ge, le') in let b = ap (λ (z : ℕ). get_or xs z 0) same in absurd (let u : ⊥ = omega (arith, b, is, wv, l) in u)
          ]
        ]) in
        let c = cond-true {A = ℕ} (p n) 1 0 e in
        omega (arith, less, c, km)
    | inr e ↦
        let c = cond-false {A = ℕ} (p n) 1 0 e in
        let less = at-most n m le (λ v l t. has v (omega (arith, l)) t) in
        omega (arith, less, c)
  ]

module _ (y : Shape) (test : ℕ → Bool) where
  -- stripes in ascending order that each have a block are at most as many as have one
  pub among-least : (xs : List ℕ) → IsStrictlyIncreasing xs → ((k : ℕ) → k < length xs → get_or xs k 0 < y.stripes) → ((k : ℕ) → k < length xs → HasBlock y test (get_or xs k 0)) → length xs ≤ stripes_among y test
  unfolding stripes_among
  among-least xs up within has = at-least (has_block y test) xs up y.stripes (length xs) (omega arith) within (λ k h. is-has-block y test (get_or xs k 0) (has k h))

  -- a map has as many as there are
  pub split-count : (map : Touched) → IsSplit y test map → length map.stripes ≡ stripes_among y test
  unfolding stripes_among
  split-count map s =
      let low = among-least map.stripes s.stripes_ascend (λ k h. s.stripes_within k 0 h) (λ k h. (s.stripes_touched (get_or map.stripes k 0) (s.stripes_within k 0 h)).0 (k, h, get_or_default map.stripes k (get_or map.stripes k 0) 0 h)) in
      let high = at-most (has_block y test) map.stripes s.stripes_ascend y.stripes (length map.stripes) (omega arith) (λ v l t.
      let c = (s.stripes_touched v l).1 (has-block-is y test v t) in
      (c.0, c.1, get_or_default map.stripes c.0 0 v c.1 ∙ c.2)) in
      omega (arith, low, high)
