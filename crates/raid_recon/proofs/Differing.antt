-- Lists of bytes that differ.
use Rattle.std.proofs.Common.{◌≡◌, ◌≢◌, ◌⊎◌, ◌↔◌, IsTrue, ℕ, zero, suc, ◌<◌, List, [], ◌∷◌, Bool, true, false, length, inl, inr, refl, sym, ap, ap₂, ◌∙◌, arith}
use Rattle.std.specs.Prelude.{slice_index, MatchBool, not}
use Rattle.std.proofs.lemmas.Bool.{cases_eq, false≢true}

-- lists of one length differ at some place, or are the same
apart-or-same : (xs ys : List ℕ) → length ys ≡ length xs → ((j : ℕ) × (j < length xs) × (slice_index xs j ≢ slice_index ys j)) ⊎ (xs ≡ ys)
apart-or-same [] [] long = inr refl
apart-or-same [] (y ∷ ys) long = absurd (omega (arith, long))
apart-or-same (x ∷ xs) [] long = absurd (omega (arith, long))
apart-or-same (x ∷ xs) (y ∷ ys) long = elim (cases_eq x y) [
  | inr ne ↦ inl (zero, omega arith, ne)
  | inl e ↦ elim (apart-or-same xs ys (omega (arith, long))) [
    | inl h ↦ inl (suc h.0, omega (arith, h.1), h.2)
    | inr same ↦ inr (ap₂ (λ z (zs : List ℕ). z ∷ zs) e same)
  ]
]

differ-is : (b : Bool) (one other : List ℕ) → length other ≡ length one → MatchBool b (one ≢ other) (one ≡ other)
    → MatchBool b ((j : ℕ) × (j < length one) × (slice_index one j ≢ slice_index other j)) ((j : ℕ) → slice_index one j ≡ slice_index other j)
differ-is true one other long apart = elim (apart-or-same one other long) [
  | inl h ↦ h
  | inr same ↦ absurd (apart same)
]
differ-is false one other long same = λ j. ap (λ (l : List ℕ). slice_index l j) same

apart-when : (p : Bool) (A : Type 0) → (IsTrue p ↔ A) → MatchBool (not p) (A → ⊥) A
apart-when true A same = same.0 refl
apart-when false A same = λ a. absurd (false≢true (same.1 a))

pub differ-by : (p : Bool) (one other : List ℕ) → length other ≡ length one → (IsTrue p ↔ (one ≡ other))
    → MatchBool (not p) ((j : ℕ) × (j < length one) × (slice_index one j ≢ slice_index other j)) ((j : ℕ) → slice_index one j ≡ slice_index other j)
differ-by p one other long same = differ-is (not p) one other long (apart-when p (one ≡ other) same)

-- the same by what stands at each place
below-or-apart : (n : ℕ) (f h : ℕ → ℕ) → ((j : ℕ) × (j < n) × (f j ≢ h j)) ⊎ ((j : ℕ) → j < n → f j ≡ h j)
below-or-apart zero f h = inr (λ j lt. absurd (omega (arith, lt)))
below-or-apart (suc n) f h = elim (cases_eq (f n) (h n)) [
  | inr ne ↦ inl (n, omega arith, ne)
  | inl e ↦ elim (below-or-apart n f h) [
    | inl a ↦ inl (a.0, omega (arith, a.1), a.2)
    | inr same ↦ inr (λ j lt. elim (cases_eq j n) [
      | inl k ↦ ap f k ∙ (e ∙ sym (ap h k))
      | inr ne ↦ same j (omega (arith, lt, ne))
    ])
  ]
]

pub apart-by : (p : Bool) (n : ℕ) (f h : ℕ → ℕ) → (IsTrue p ↔ ((j : ℕ) → j < n → f j ≡ h j)) → MatchBool (not p) ((j : ℕ) × (j < n) × (f j ≢ h j)) ((j : ℕ) → j < n → f j ≡ h j)
apart-by true n f h same = same.0 refl
apart-by false n f h same = elim (below-or-apart n f h) [
  | inl a ↦ a
  | inr all ↦ absurd (false≢true (same.1 all))
]

-- what differs from a list differs from what stands at its places
pub differ-at : (b : Bool) (one other : List ℕ) (h : ℕ → ℕ) → ((j : ℕ) → j < length one → slice_index other j ≡ h j)
    → MatchBool b ((j : ℕ) × (j < length one) × (slice_index one j ≢ slice_index other j)) ((j : ℕ) → slice_index one j ≡ slice_index other j)
    → MatchBool b ((j : ℕ) × (j < length one) × (slice_index one j ≢ h j)) ((j : ℕ) → j < length one → slice_index one j ≡ h j)
differ-at true one other h at apart = (apart.0, apart.1, λ e. apart.2 (e ∙ sym (at apart.0 apart.1)))
differ-at false one other h at same = λ j lt. same j ∙ at j lt
