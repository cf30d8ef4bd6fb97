-- How many ranges parts have: each end adds at most one to one for each stripe.
use Rattle.std.proofs.Common.{◌≡◌, ◌≢◌, ℕ, suc, ◌+◌, ◌-◌, ◌*◌, ◌≤◌, inl, inr, Bool, true, false, List, [], ◌∷◌, sym, ap, ◌∙◌, arith, length}
use Rattle.std.specs.Prelude.{◌&&◌, ◌||◌, not, ◌==◌, nat_le, nat_lt}
use Rattle.std.specs.List.{list_any}
use Rattle.std.proofs.lemmas.Bool.{cases_Bool, cases_eq, cond-true, eq-eqb, ne_eqb}
use Rattle.lay_core.specs.declared.place.Part.{Part}
use Rattle.lay_core.specs.Touched.{part_has}
use Rattle.graph_mean.specs.Task.{Aim, is_touched, data_units}
use Rattle.graph_mean.specs.Fewest.{sum_below, one_if}
use Rattle.graph_mean.proofs.Reading.{sum-le, sum-add, sum-zero}
use Rattle.graph_lib.specs.Library.{same_touched, touched_ranges}
use Rattle.graph_lib.specs.Laws.{range_count}
use Rattle.graph_lib.proofs.Sizes.{sum-ones}
use Rattle.graph_lib.proofs.SpanRanges.{change, stripe-ranges, met-once, below-differ, beside-same}
use Rattle.graph_lib.proofs.Words.{same_answer}

-- the next offset is this end of a part of stripe k
abbrev one : ℕ → ℕ → ℕ → ℕ → ℕ
one k e s o = one_if ((s == k) && (suc o == e))

unfoldable hits : List Part → ℕ → ℕ → ℕ
hits [] s o = 0
hits (p ∷ ps) s o = one p.stripe p.from s o + (one p.stripe (p.from + p.count) s o + hits ps s o)

in-stripe : (k e s n : ℕ) → sum_below (one k e s) n ≤ one_if (s == k)
in-stripe k e s n = by-test (s == k)
  where
    by-test : (b : Bool) → sum_below (λ o. one_if (b && (suc o == e))) n ≤ one_if b
    by-test true = met-once suc e n (λ i j l m q. omega arith)
    by-test false = let z = sum-zero n in omega arith

once : (k e n m : ℕ) → sum_below (λ s. sum_below (one k e s) n) m ≤ 1
once k e n m =
    let a = sum-le (λ s. sum_below (one k e s) n) (λ s. one_if (s == k)) m (λ s _. in-stripe k e s n) in
    let b = met-once (λ s. s) k m (λ i j l u q. omega arith) in
    omega arith

hits-most : (ps : List Part) (n m : ℕ) → sum_below (λ s. sum_below (hits ps s) n) m ≤ 2 * length ps
unfolding hits
hits-most [] n m =
    let a = sum-le (λ s. sum_below (λ o. 0) n) (λ _. 0) m (λ s _. let z = sum-zero n in omega arith) in
    let b = sum-zero m in
    omega arith
hits-most (p ∷ ps) n m =
    let k : ℕ = p.stripe in
    let e : ℕ = p.from + p.count in
    let a = sum-le (λ s. sum_below (hits (p ∷ ps) s) n) (λ s. sum_below (one k p.from s) n + (sum_below (one k e s) n + sum_below (hits ps s) n)) m (λ s _. let z = sum-add (one k p.from s) (λ o. one k e s o + hits ps s o) n in let w = sum-add (one k e s) (hits ps s) n in omega arith) in
    let b = sum-add (λ s. sum_below (one k p.from s) n) (λ s. sum_below (one k e s) n + sum_below (hits ps s) n) m in
    let c = sum-add (λ s. sum_below (one k e s) n) (λ s. sum_below (hits ps s) n) m in
    let d = once k p.from n m in
    let f = once k e n m in
    let r = hits-most ps n m in
    omega arith

-- a part has two neighbours both or neither, where it is of another stripe or has no end between them
part-other : (p : Part) (s i o : ℕ) → p.stripe ≢ s → part_has s i o p ≡ false
part-other p s i o h = ap (λ b. b && ((p.unit == i) && (nat_le p.from o && nat_lt o (p.from + p.count)))) (ne_eqb p.stripe s h)

part-same : (p : Part) (s i o : ℕ) → suc o ≢ p.from → suc o ≢ p.from + p.count → part_has s i o p ≡ part_has s i (suc o) p
part-same p s i o h k = ap (λ x. (p.stripe == s) && ((p.unit == i) && x)) (beside-same (record { first = p.from; count = p.count }) o h k)

rest : (x z a b : Bool) → x ≡ z → same_answer (x || a) (z || b) ≡ false → same_answer a b ≡ false
rest true true a b q w = cc
rest true false a b q w = cc
rest false true a b q w = cc
rest false false a b q w = w

is-one : (k e s o : ℕ) → k ≡ s → suc o ≡ e → one k e s o ≡ 1
is-one k e s o q f = cond-true ((s == k) && (suc o == e)) 1 0 (ap (λ c. c && (suc o == e)) (eq-eqb s k (sym q)) ∙ eq-eqb (suc o) e f)

end-hit : (ps : List Part) (s i o : ℕ) → same_answer (list_any (part_has s i o) ps) (list_any (part_has s i (suc o)) ps) ≡ false → 1 ≤ hits ps s o
unfolding hits
end-hit [] s i o h = cc
end-hit (p ∷ ps) s i o h = elim (cases_eq p.stripe s) [
  | inl q ↦ elim (cases_eq (suc o) p.from) [
    | inl e ↦ let a = is-one p.stripe p.from s o q e in omega arith
    | inr e ↦ elim (cases_eq (suc o) (p.from + p.count)) [
      | inl f ↦ let a = is-one p.stripe (p.from + p.count) s o q f in omega arith
      | inr f ↦ more (λ w. end-hit ps s i o w) (part-same p s i o e f)
    ]
  ]
  | inr q ↦ more (λ w. end-hit ps s i o w) (part-other p s i o q ∙ sym (part-other p s i (suc o) q))
]
  where
    more : (same_answer (list_any (part_has s i o) ps) (list_any (part_has s i (suc o)) ps) ≡ false → 1 ≤ hits ps s o) → part_has s i o p ≡ part_has s i (suc o) p → 1 ≤ one p.stripe p.from s o + (one p.stripe (p.from + p.count) s o + hits ps s o)
    more again e = let r = again (rest (part_has s i o p) (part_has s i (suc o) p) (list_any (part_has s i o) ps) (list_any (part_has s i (suc o)) ps) e h) in omega arith

change-hit : (t : Aim) (s o : ℕ) → change t s o ≤ hits t.parts s o
unfolding same_touched
change-hit t s o = elim (cases_Bool (same_touched t s o (suc o))) [
  | inl e ↦ let z : change t s o ≡ 0 = ap (λ b. one_if (not b)) e in omega arith
  | inr e ↦
      let z : change t s o ≡ 1 = ap (λ b. one_if (not b)) e in
      let d = below-differ (λ i. is_touched t s i o) (λ i. is_touched t s i (suc o)) (data_units t) e in
      let k = end-hit t.parts s d.0 o d.2 in
      omega arith
]

pub part-ranges : (t : Aim) → 1 ≤ t.unit_sectors → range_count t ≤ t.stripes + 2 * length t.parts
part-ranges t l =
    let n : ℕ = t.unit_sectors - 1 in
    let a = sum-le (λ s. length (touched_ranges t s)) (λ s. 1 + sum_below (change t s) n) t.stripes (λ s _. stripe-ranges t s l) in
    let b = sum-add (λ _. 1) (λ s. sum_below (change t s) n) t.stripes in
    let c = sum-ones t.stripes in
    let d = sum-le (λ s. sum_below (change t s) n) (λ s. sum_below (hits t.parts s) n) t.stripes (λ s _. sum-le (change t s) (hits t.parts s) n (λ o _. change-hit t s o)) in
    let e = hits-most t.parts n t.stripes in
    omega arith
