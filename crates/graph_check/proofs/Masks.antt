-- Bits of masks.
use Rattle.std.proofs.Common.{◌≡◌, ℕ, ◌+◌, ◌-◌, ◌^◌, ◌<◌, ◌≤◌, ◌⊎◌, inl, inr, List, sym, ap, ◌∙◌, subst, arith, length, get_or}
use Rattle.std.specs.Prelude.{◌↔◌, slice_set, bit_or}
use Rattle.std.specs.Int.{bit_at}
use Rattle.std.proofs.lemmas.Bool.{cases_eq}
use Rattle.std.proofs.lemmas.List.{get_or-set_other, get_or-set_same}
use Rattle.std.proofs.lemmas.Nat.Bits.{bit_at-lt, bit_at_or, bit_at-pow_same, bit_at-pow_other}
use Rattle.graph_check.specs.Following.{IsSeen}

pub or-cases : (a b j : ℕ) → bit_at (bit_or a b) j ≡ 1 → (bit_at a j ≡ 1) ⊎ (bit_at b j ≡ 1)
or-cases a b j h =
    let e = bit_at_or a b j in
    elim (cases_eq (bit_at a j) 1) [
      | inl y ↦ inl y
      | inr n ↦ let x = bit_at-lt a j in let y = bit_at-lt b j in inr (omega arith)
    ]

pub or-left : (a b j : ℕ) → bit_at a j ≡ 1 → bit_at (bit_or a b) j ≡ 1
or-left a b j h = let e = bit_at_or a b j in let y = bit_at-lt b j in omega arith

pub or-right : (a b j : ℕ) → bit_at b j ≡ 1 → bit_at (bit_or a b) j ≡ 1
or-right a b j h = let e = bit_at_or a b j in let y = bit_at-lt a j in omega arith

pub pow-bit : (k j : ℕ) → bit_at (2 ^ k) j ≡ 1 → j ≡ k
pow-bit k j h = elim (cases_eq j k) [ inl e ↦ e | inr n ↦ let z = bit_at-pow_other k j n in absurd (omega arith) ]

pub bit-pow : (k j : ℕ) → j ≡ k → bit_at (2 ^ k) j ≡ 1
bit-pow k j e = subst (λ i. bit_at (2 ^ k) i ≡ 1) (sym e) (bit_at-pow_same k)

-- with one node of the block more
pub with-bit : (base n mask r : ℕ) → base ≤ n → r ≡ bit_or mask (2 ^ (n - base)) → (j : ℕ) → (bit_at r j ≡ 1) ↔ ((n ≡ base + j) ⊎ (bit_at mask j ≡ 1))
with-bit base n mask r l e j = (
  (λ h. elim (or-cases mask (2 ^ (n - base)) j (ap (λ x. bit_at x j) (sym e) ∙ h)) [
    | inl m ↦ inr m
    | inr p ↦ let q = pow-bit (n - base) j p in inl (omega arith)
  ]),
  (λ h. ap (λ x. bit_at x j) e ∙ elim h [
    | inl q ↦ or-right mask (2 ^ (n - base)) j (bit-pow (n - base) j (omega arith))
    | inr m ↦ or-left mask (2 ^ (n - base)) j m
  ]),
)

pub seen-kept : (xs : List ℕ) (i m j k : ℕ) → i < length xs → IsSeen xs j k → IsSeen (slice_set xs i (bit_or (get_or xs i 0) m)) j k
seen-kept xs i m j k l h = elim (cases_eq k i) [
  | inl e ↦ subst (λ z. IsSeen (slice_set xs i (bit_or (get_or xs i 0) m)) j z) (sym e) (ap (λ x. bit_at x j) (get_or-set_same xs i (bit_or (get_or xs i 0) m) 0 l) ∙ or-left (get_or xs i 0) m j (subst (IsSeen xs j) e h))
  | inr e ↦ ap (λ x. bit_at x j) (get_or-set_other xs i k (bit_or (get_or xs i 0) m) 0 e) ∙ h
]

pub seen-here : (xs : List ℕ) (i m j : ℕ) → i < length xs → bit_at m j ≡ 1 → IsSeen (slice_set xs i (bit_or (get_or xs i 0) m)) j i
seen-here xs i m j l h = ap (λ x. bit_at x j) (get_or-set_same xs i (bit_or (get_or xs i 0) m) 0 l) ∙ or-right (get_or xs i 0) m j h

pub seen-cases : (xs : List ℕ) (i m j k : ℕ) → i < length xs → IsSeen (slice_set xs i (bit_or (get_or xs i 0) m)) j k → IsSeen xs j k ⊎ ((bit_at m j ≡ 1) × (k ≡ i))
seen-cases xs i m j k l h = elim (cases_eq k i) [
  | inl e ↦
      let v : bit_at (bit_or (get_or xs i 0) m) j ≡ 1 = sym (ap (λ x. bit_at x j) (get_or-set_same xs i (bit_or (get_or xs i 0) m) 0 l)) ∙ subst (λ z. IsSeen (slice_set xs i (bit_or (get_or xs i 0) m)) j z) e h in
      elim (or-cases (get_or xs i 0) m j v) [ inl o ↦ inl (subst (IsSeen xs j) (sym e) o) | inr b ↦ inr (b, e) ]
  | inr e ↦ inl (sym (ap (λ x. bit_at x j) (get_or-set_other xs i k (bit_or (get_or xs i 0) m) 0 e)) ∙ h)
]
