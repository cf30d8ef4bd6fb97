-- The nodes that wait for none, as one node more is counted.
use Rattle.std.proofs.Common.{◌≡◌, ◌≢◌, ℕ, ◌++◌, ◌∷◌, [], inl, inr, List, Bool, true, false, refl, ap, sym, ◌∙◌, arith, length, slice_index_or}
use Rattle.std.specs.Prelude.{◌==◌, ◌||◌, if◌then◌else◌}
use Rattle.std.proofs.lemmas.Bool.{cases_eq, cases_lt, cond-true, cond-false, eq-eqb, ne_eqb}
use Rattle.std.proofs.lemmas.List.{get_or_past, get_or_push, get_or_append_left, length_push}

-- one more at the end
pub pushed-here : (xs : List ℕ) (c k d : ℕ) → k ≡ length xs → slice_index_or (xs ++ c ∷ []) k d ≡ c
pushed-here xs c k d e = get_or_push xs c d k (sym e)

pub pushed-other : (xs : List ℕ) (c k d : ℕ) → k ≢ length xs → slice_index_or (xs ++ c ∷ []) k d ≡ slice_index_or xs k d
pushed-other xs c k d apart = elim (cases_lt k (length xs)) [
  | inl l ↦ get_or_append_left xs (c ∷ []) d k l
  | inr m ↦ get_or_past (xs ++ c ∷ []) k d (let p = length_push xs c in omega (arith, m, apart, p)) ∙ sym (get_or_past xs k d m)
]

or-false : (b : Bool) → (b || false) ≡ b
or-false true = refl
or-false false = refl

module _ (xs ys : List ℕ) (c n : ℕ) (long : length xs ≡ n) (more : ys ≡ xs ++ c ∷ []) (was now : ℕ → Bool) (before : (k : ℕ) → was k ≡ (slice_index_or xs k 1 == 0)) where
  old : (k : ℕ) → k ≢ n → was k ≡ (slice_index_or ys k 1 == 0)
  old k apart = before k ∙ ap (λ (x : ℕ). x == 0) (sym (ap (λ zs. slice_index_or zs k 1) more ∙ pushed-other xs c k 1 (λ e. apart (e ∙ long))))

  here : (k : ℕ) → k ≡ n → slice_index_or ys k 1 ≡ c
  here k e = ap (λ zs. slice_index_or zs k 1) more ∙ pushed-here xs c k 1 (e ∙ sym long)

  pub one-more : ((k : ℕ) → now k ≡ (if k == n then (c == 0) || was k else was k)) → (k : ℕ) → now k ≡ (slice_index_or ys k 1 == 0)
  one-more in_it k = elim (cases_eq k n) [
    | inl e ↦
        let none : was k ≡ false = before k ∙ ap (λ (x : ℕ). x == 0) (get_or_past xs k 1 (omega (arith, e, long))) in
        in_it k ∙ cond-true (k == n) ((c == 0) || was k) (was k) (eq-eqb k n e) ∙ ap (λ b. (c == 0) || b) none ∙ or-false (c == 0) ∙ sym (ap (λ (x : ℕ). x == 0) (here k e))
    | inr apart ↦ in_it k ∙ cond-false (k == n) ((c == 0) || was k) (was k) (ne_eqb k n apart) ∙ old k apart
  ]
