-- How many elements of a list pass a test: none, or one at most.
use Rattle.std.specs.Prelude.{◌≡◌, ◌⊎◌, ◌+◌, ◌<◌, ◌≤◌, ℕ, zero, suc, Bool, true, false, List, length, take, count_by, get_or, Some, slice_get}
use Rattle.std.proofs.Common.{arith, refl, sym, ap, inl, inr, ◌∙◌, add-one, take_all}
use Rattle.std.proofs.lemmas.List.Sums.{count_by_more_no, count_by_more_yes}
use Rattle.std.proofs.lemmas.Option.{slice_get-get_or}

module _ {X : Type 0} (p : X → Bool) (xs : List X) (d : X) where
  -- of the first n none passes, or one does
  record Passes (n : ℕ) : Type 0 where
    at : ℕ
    before : at < n
    is : p (get_or xs at d) ≡ true
    once : count_by p (take n xs) ≡ 1

  none_of : (n : ℕ) → n ≤ length xs → ((c : ℕ) (x : X) → slice_get xs c ≡ Some x → p x ≡ false) → count_by p (take n xs) ≡ 0
  none_of zero lt none = cc
  none_of (suc n) lt none =
      let more : count_by p (take (n + 1) xs) ≡ count_by p (take n xs) = count_by_more_no p xs n d (omega (arith, lt)) (none n (get_or xs n d) (slice_get-get_or xs n d (omega (arith, lt)))) in
      ap (λ (k : ℕ). count_by p (take k xs)) (sym (add-one n)) ∙ (more ∙ none_of n (omega (arith, lt)) none)

  pub count_none : ((c : ℕ) (x : X) → slice_get xs c ≡ Some x → p x ≡ false) → count_by p xs ≡ 0
  count_none none = ap (λ (l : List X). count_by p l) (sym (take_all (length xs) xs (omega arith))) ∙ none_of (length xs) (omega arith) none

  one_of : (n : ℕ) → n ≤ length xs → ((c k : ℕ) (x y : X) → slice_get xs c ≡ Some x → slice_get xs k ≡ Some y → p x ≡ true → p y ≡ true → c ≡ k) → (count_by p (take n xs) ≡ 0) ⊎ Passes n
  one_of zero lt one = inl cc
  one_of (suc n) lt one = go (p (get_or xs n d)) refl (one_of n (omega (arith, lt)) one)
    where
      here : n < length xs
      here = omega (arith, lt)

      go : (b : Bool) → p (get_or xs n d) ≡ b → (count_by p (take n xs) ≡ 0) ⊎ Passes n → (count_by p (take (suc n) xs) ≡ 0) ⊎ Passes (suc n)
      go false e (inl none) = inl (ap (λ (k : ℕ). count_by p (take k xs)) (sym (add-one n)) ∙ (count_by_more_no p xs n d here e ∙ none))
      go false e (inr h) = inr (record { at = h.at; before = omega (arith, h.before); is = h.is; once = ap (λ (k : ℕ). count_by p (take k xs)) (sym (add-one n)) ∙ (count_by_more_no p xs n d here e ∙ h.once) })
      go true e (inl none) = inr (record { at = n; before = omega arith; is = e; once = ap (λ (k : ℕ). count_by p (take k xs)) (sym (add-one n)) ∙ (count_by_more_yes p xs n d here e ∙ ap (λ (k : ℕ). k + 1) none) })
      go true e (inr h) = absurd (omega (arith, h.before, one h.at n (get_or xs h.at d) (get_or xs n d) (slice_get-get_or xs h.at d (omega (arith, h.before, here))) (slice_get-get_or xs n d here) h.is e))

  pub count_one : ((c k : ℕ) (x y : X) → slice_get xs c ≡ Some x → slice_get xs k ≡ Some y → p x ≡ true → p y ≡ true → c ≡ k) → count_by p xs ≤ 1
  count_one one = elim (one_of (length xs) (omega arith) one) [
    | inl none ↦ omega (arith, none, whole)
    | inr h ↦ omega (arith, h.once, whole)
  ]
    where
      whole : count_by p (take (length xs) xs) ≡ count_by p xs
      whole = ap (λ (l : List X). count_by p l) (take_all (length xs) xs (omega arith))
