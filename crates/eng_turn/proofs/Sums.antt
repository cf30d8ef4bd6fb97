-- Sums over a list of which one element changes, and a list cut at one element.
use Rattle.std.proofs.Common.{◌≡◌, ℕ, zero, suc, ◌+◌, ◌≤◌, ◌≢◌, List, [], ◌∷◌, ◌++◌, set, sum_by, sym, refl, ap, arith}
use mathlib.Core.Option.{some, some-injective, some-ne-none}
use lib.ListN.{get_elem?}
use Rattle.std.proofs.lemmas.List.Sums.{sum_by-cons, sum_by_push}

module _ {A : Type 0} (f : A → ℕ) where
  pub sum_by_set : (l : List A) (i : ℕ) (v w : A) → get_elem? l i ≡ some v → sum_by f (set l i w) + f v ≡ sum_by f l + f w
  sum_by_set [] i v w e = absurd (some-ne-none v (sym e))
  sum_by_set (x ∷ xs) zero v w e = let is : f x ≡ f v = ap f (some-injective x v e) in let a = sum_by-cons f w xs in let b = sum_by-cons f x xs in omega arith
  sum_by_set (x ∷ xs) (suc i) v w e = let r = sum_by_set xs i v w e in let a = sum_by-cons f x (set xs i w) in let b = sum_by-cons f x xs in omega arith

  pub sum_by_snoc : (l : List A) (v : A) → sum_by f (l ++ v ∷ []) ≡ sum_by f l + f v
  sum_by_snoc l v = sum_by_push f l v

  pub sum_by_has : (l : List A) (i : ℕ) (v : A) → get_elem? l i ≡ some v → f v ≤ sum_by f l
  sum_by_has [] i v e = absurd (some-ne-none v (sym e))
  sum_by_has (x ∷ xs) zero v e = let is : f x ≡ f v = ap f (some-injective x v e) in let b = sum_by-cons f x xs in omega arith
  sum_by_has (x ∷ xs) (suc i) v e = let r = sum_by_has xs i v e in let b = sum_by-cons f x xs in omega arith

  pub sum_by_has_two : (l : List A) (i j : ℕ) (v w : A) → j ≢ i → get_elem? l i ≡ some v → get_elem? l j ≡ some w → f v + f w ≤ sum_by f l
  sum_by_has_two [] i j v w apart e d = absurd (some-ne-none v (sym e))
  sum_by_has_two (x ∷ xs) zero zero v w apart e d = absurd (apart refl)
  sum_by_has_two (x ∷ xs) zero (suc j) v w apart e d = let is : f x ≡ f v = ap f (some-injective x v e) in let r = sum_by_has xs j w d in let b = sum_by-cons f x xs in omega arith
  sum_by_has_two (x ∷ xs) (suc i) zero v w apart e d = let is : f x ≡ f w = ap f (some-injective x w d) in let r = sum_by_has xs i v e in let b = sum_by-cons f x xs in omega arith
  sum_by_has_two (x ∷ xs) (suc i) (suc j) v w apart e d = let r = sum_by_has_two xs i j v w (λ s. apart (ap suc s)) e d in let b = sum_by-cons f x xs in omega arith

  pub sum_by_below : (g : A → ℕ) (l : List A) → ((i : ℕ) (v : A) → get_elem? l i ≡ some v → f v ≤ g v) → sum_by f l ≤ sum_by g l
  sum_by_below g [] le = omega arith
  sum_by_below g (x ∷ xs) le = let a : f x ≤ g x = le zero x refl in let r = sum_by_below g xs (λ i v e. le (suc i) v e) in let b = sum_by-cons f x xs in let c = sum_by-cons g x xs in omega arith

  pub sum_by_none : (l : List A) → ((j : ℕ) (d : A) → get_elem? l j ≡ some d → f d ≡ 0) → sum_by f l ≡ 0
  sum_by_none [] none_more = refl
  sum_by_none (x ∷ xs) none_more = let a : f x ≡ 0 = none_more zero x refl in let r = sum_by_none xs (λ j d e. none_more (suc j) d e) in let b = sum_by-cons f x xs in omega arith

  -- only the one at i counts
  pub sum_by_one : (l : List A) (i : ℕ) (v : A) → get_elem? l i ≡ some v → ((j : ℕ) (d : A) → j ≢ i → get_elem? l j ≡ some d → f d ≡ 0) → sum_by f l ≡ f v
  sum_by_one [] i v e none_more = absurd (some-ne-none v (sym e))
  sum_by_one (x ∷ xs) zero v e none_more = let is : f x ≡ f v = ap f (some-injective x v e) in let r = sum_by_none xs (λ j d h. none_more (suc j) d (λ z. omega arith) h) in let b = sum_by-cons f x xs in omega arith
  sum_by_one (x ∷ xs) (suc i) v e none_more = let a : f x ≡ 0 = none_more zero x (λ z. omega arith) refl in let r = sum_by_one xs i v e (λ j d apart h. none_more (suc j) d (λ z. apart (omega arith)) h) in let b = sum_by-cons f x xs in omega arith

module _ {A : Type 0} where
  -- the list before the place i, and the list behind it
  pub cut : (l : List A) (i : ℕ) (v : A) → get_elem? l i ≡ some v → (xs : List A) × (ys : List A) × (l ≡ xs ++ v ∷ ys) × ((w : A) → set l i w ≡ xs ++ w ∷ ys)
  cut [] i v e = absurd (some-ne-none v (sym e))
  cut (x ∷ xs) zero v e = ([], xs, ap (λ (y : A). y ∷ xs) (some-injective x v e), λ w. refl)
  cut (x ∷ xs) (suc i) v e = let r = cut xs i v e in (x ∷ r.0, r.1, ap (λ (l : List A). x ∷ l) r.2, λ w. ap (λ (l : List A). x ∷ l) (r.3 w))
