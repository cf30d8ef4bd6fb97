-- Lists of numbers in ascending order that have the same numbers are one list.
use Rattle.std.proofs.Common.{◌≡◌, ℕ, zero, suc, ◌+◌, ◌<◌, ◌≤◌, List, length, get_or, sym, ap, ◌∙◌, arith, inl, inr}
use Rattle.std.specs.Prelude.{Contains}
use Rattle.std.specs.List.Sorted.{IsStrictlyIncreasing}
use Rattle.std.proofs.lemmas.Bool.{cases_lt}
use Rattle.std.proofs.lemmas.List.{get_or_default}
use Rattle.std.proofs.lemmas.List.Kept.{AllPairs-from_increasing}

module _ (xs ys : List ℕ) (up : IsStrictlyIncreasing xs) (vp : IsStrictlyIncreasing ys) (has : (s : ℕ) → Contains xs s → Contains ys s) where
  at : (q : ℕ) → q < length xs → (j : ℕ) × (j < length ys) × (get_or ys j 0 ≡ get_or xs q 0)
  at q h = let c = has (get_or xs q 0) (q, h, get_or_default xs q (get_or xs q 0) 0 h) in (c.0, c.1, get_or_default ys c.0 0 (get_or xs q 0) c.1 ∙ c.2)

  -- the number at a place stands there or behind in the other list
  pub no-earlier : (q : ℕ) → q < length xs → (j : ℕ) → j < length ys → get_or ys j 0 ≡ get_or xs q 0 → q ≤ j
  no-earlier zero h j l e = omega arith
  no-earlier (suc q) h j l e =
      let i = at q (omega (arith, h)) in
      let less = no-earlier q (omega (arith, h)) i.0 i.1 i.2 in
      let step = AllPairs-from_increasing xs up q (suc q) 0 (omega arith) h in
      let is = i.2 in
      elim (cases_lt i.0 j) [
        | inl lt ↦ omega (arith, less, lt)
        | inr ge ↦ elim (cases_lt j i.0) [
          | inl lt ↦ let b = AllPairs-from_increasing ys vp j i.0 0 lt i.1 in absurd (let u : ⊥ = omega (arith, b, e, is, step) in u)
          | inr le ↦ let same : i.0 ≡ j = omega (arith, ge, le) in let f = ap (λ (k : ℕ). get_or ys k 0) same in absurd (let u : ⊥ = omega (arith, f, e, is, step) in u)
        ]
      ]

pub same-at : (xs ys : List ℕ) → IsStrictlyIncreasing xs → IsStrictlyIncreasing ys → ((s : ℕ) → Contains xs s → Contains ys s) → ((s : ℕ) → Contains ys s → Contains xs s) → (q : ℕ) → q < length xs → q < length ys → get_or xs q 0 ≡ get_or ys q 0
same-at xs ys up vp to from q h l =
    let j = at xs ys up vp to q h in
    let i = at ys xs vp up from q l in
    let a = no-earlier xs ys up vp to q h j.0 j.1 j.2 in
    let b = no-earlier ys xs vp up from q l i.0 i.1 i.2 in
    let js = j.2 in
    let is = i.2 in
    elim (cases_lt q j.0) [
      | inl lt ↦
          let c = AllPairs-from_increasing ys vp q j.0 0 lt j.1 in
          elim (cases_lt q i.0) [
            | inl lu ↦ let d = AllPairs-from_increasing xs up q i.0 0 lu i.1 in absurd (let u : ⊥ = omega (arith, c, d, js, is) in u)
            | inr le ↦ let same : i.0 ≡ q = omega (arith, le, b) in ap (λ (k : ℕ). get_or xs k 0) (sym same) ∙ is
          ]
      | inr le ↦ let same : j.0 ≡ q = omega (arith, le, a) in sym js ∙ ap (λ (k : ℕ). get_or ys k 0) same
    ]
