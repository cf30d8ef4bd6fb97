-- Numbers that pass, one after another.
use Rattle.std.proofs.Common.{◌≡◌, ◌<◌, ◌≤◌, ◌∙◌, ℕ, zero, suc, Bool, true, false, inl, inr, ap, sym, refl, arith}
use Rattle.std.specs.Prelude.{◌||◌, if◌then◌else◌}
use Rattle.std.proofs.lemmas.Bool.{cases_eq}
use Rattle.lay_core.specs.Touched.{count_below, any_below}

or-true : (a : Bool) → (a || true) ≡ true
or-true true = refl
or-true false = refl

-- one of them passes
pub any-here : (p : ℕ → Bool) (n i : ℕ) → i < n → p i ≡ true → any_below p n ≡ true
any-here p zero i h e = absurd (omega (arith, h))
any-here p (suc n) i h e = elim (cases_eq i n) [
  | inl same ↦ ap (λ b. b || any_below p n) (ap p (sym same) ∙ e)
  | inr ne ↦ ap (λ b. p n || b) (any-here p n i (omega (arith, h, ne)) e) ∙ or-true (p n)
]

-- one more that doesn't
pub any-more : (p : ℕ → Bool) (n m : ℕ) → m ≡ suc n → any_below p n ≡ false → p n ≡ false → any_below p m ≡ false
any-more p n m next none e = ap (any_below p) next ∙ (ap (λ b. b || any_below p n) e ∙ none)

-- no more pass than there are
pub count-few : (p : ℕ → Bool) (n : ℕ) → count_below p n ≤ n
count-few p zero = omega arith
count-few p (suc n) = omega (arith, count-few p n, one (p n))
  where
    one : (b : Bool) → (if b then 1 else 0) ≤ 1
    one true = omega arith
    one false = omega arith
