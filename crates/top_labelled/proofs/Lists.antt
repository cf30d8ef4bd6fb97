-- Lists of devices that failed, columns that have a device, and counts.
use Rattle.std.proofs.Common.{◌≡◌, ◌⊎◌, inl, inr, ℕ, zero, suc, ◌<◌, ◌≤◌, ◌+◌, ◌-◌, List, [], ◌∷◌, ◌++◌, Bool, true, false, cond, length, get_or, Option, Some, None, slice_get, refl, sym, ap, ap₂, subst, arith}
use Rattle.std.specs.Prelude.{AllPairs, count_by, slice_set}
use Rattle.std.proofs.lemmas.Bool.{cases_eq, cases_lt, cond-false}
use Rattle.std.proofs.lemmas.List.{get_or_append_left, get_or-append_right, length-append}
use Rattle.std.proofs.lemmas.List.Sums.{sum_by-cons}
use Rattle.eng_cols.specs.Cols.{device_set, passes, HasDeviceOn}
use Rattle.eng_cols.specs.declared.column.Column.{Column}
use Rattle.eng_cols.specs.declared.column.Column.TheVariants as column

-- pairs of two lists are those of each, and those across
pub pairs-append : {X : Type 0} (R : X → X → Type 0) (xs ys : List X) → AllPairs R xs → AllPairs R ys
    → ((i j : ℕ) (z : X) → i < length xs → j < length ys → R (get_or xs i z) (get_or ys j z)) → AllPairs R (xs ++ ys)
pairs-append R xs ys one two across i j z before within =
    let long = length-append xs ys in
    elim (cases_lt j (length xs)) [
      | inl jl ↦
          subst (λ v. R v (get_or (xs ++ ys) j z)) (sym (get_or_append_left xs ys z i (omega (arith, before, jl))))
          (subst (λ v. R (get_or xs i z) v) (sym (get_or_append_left xs ys z j jl)) (one i j z before jl))
      | inr jr ↦ elim (cases_lt i (length xs)) [
        | inl il ↦
            subst (λ v. R v (get_or (xs ++ ys) j z)) (sym (get_or_append_left xs ys z i il))
            (subst (λ v. R (get_or xs i z) v) (sym (get_or-append_right xs ys (length xs) j z refl jr)) (across i (j - length xs) z il (omega (arith, jr, within, long))))
        | inr ir ↦
            subst (λ v. R v (get_or (xs ++ ys) j z)) (sym (get_or-append_right xs ys (length xs) i z refl ir))
            (subst (λ v. R (get_or ys (i - length xs) z) v) (sym (get_or-append_right xs ys (length xs) j z refl jr)) (two (i - length xs) (j - length xs) z (omega (arith, before, ir, jr)) (omega (arith, jr, within, long))))
      ]
    ]

-- ## Devices

-- A device is a column's, or none has it.
IsOn : ℕ → Option Column → Type 0
IsOn d x = device_set x ≡ Some d

same-or-not : (e d : ℕ) → (Some e ≡ Some d) ⊎ (Some e ≡ Some d → ⊥)
same-or-not e d = elim (cases_eq e d) [
  | inl same ↦ inl (ap (λ (n : ℕ). Some n) same)
  | inr other ↦ inr (λ h. let z : Some e ≡ Some d = h in let u : e ≡ d = cc in other u)
]

none-is : (d : ℕ) → None ≡ Some d → ⊥
none-is d h = let u : ⊥ = cc in u

on-or-not : (d : ℕ) (x : Column) → IsOn d (Some x) ⊎ (IsOn d (Some x) → ⊥)
unfolding IsOn
on-or-not d (column.Live e) = same-or-not e d
on-or-not d column.Dead = inr (none-is d)
on-or-not d (column.Filling e m) = same-or-not e d
on-or-not d column.Spread = inr (none-is d)

pub in-use-or-not : (columns : List Column) (d : ℕ) → ((c : ℕ) × HasDeviceOn columns c d) ⊎ ((c : ℕ) → HasDeviceOn columns c d → ⊥)
unfolding IsOn
in-use-or-not [] d = inr (λ c h. none-is d h)
in-use-or-not (x ∷ columns) d = elim (on-or-not d x) [
  | inl here ↦ inl (0, here)
  | inr not ↦ elim (in-use-or-not columns d) [
    | inl there ↦ inl (suc there.0, there.1)
    | inr none ↦ inr (none-at not none)
  ]
]
  where
    none-at : (IsOn d (Some x) → ⊥) → ((c : ℕ) → HasDeviceOn columns c d → ⊥) → (c : ℕ) → HasDeviceOn (x ∷ columns) c d → ⊥
    none-at not none zero h = not h
    none-at not none (suc c) h = none c h

-- ## Counts

one_if : Bool → ℕ
one_if b = cond b 1 0

counted : {X : Type 0} (p : X → Bool) (x : X) (xs : List X) → count_by p (x ∷ xs) ≡ one_if (p x) + count_by p xs
unfolding one_if
counted p x xs = sum_by-cons (λ z. cond (p z) 1 0) x xs

no-one : (b : Bool) → b ≡ false → one_if b ≡ 0
unfolding one_if
no-one b h = cond-false {A = ℕ} b 1 0 h

-- where each place passes not, none is counted
pub none-passing : {X : Type 0} (p : X → Bool) (xs : List X) → ((k : ℕ) → passes p (slice_get xs k) ≡ false) → count_by p xs ≡ 0
none-passing p [] none = refl
none-passing p (x ∷ xs) none = let a = counted p x xs in let b = no-one (p x) (none 0) in let rest = none-passing p xs (λ k. none (suc k)) in omega (arith, a, b, rest)

one-less : (a b : Bool) → (b ≡ true → a ≡ true) → one_if b ≤ one_if a
unfolding one_if
one-less a false h = omega arith
one-less true true h = omega arith
one-less false true h = let z : false ≡ true = h refl in absurd (let u : ⊥ = cc in u)

-- where what passes passed, no more are counted
pub count-less : {X : Type 0} (p : X → Bool) (xs zs : List X) → length zs ≡ length xs → ((k : ℕ) → passes p (slice_get zs k) ≡ true → passes p (slice_get xs k) ≡ true) → count_by p zs ≤ count_by p xs
count-less p [] [] long each = omega arith
count-less p [] (z ∷ zs) long each = absurd (omega (arith, long))
count-less p (x ∷ xs) [] long each = absurd (omega (arith, long))
count-less p (x ∷ xs) (z ∷ zs) long each =
    let a = counted p x xs in
    let b = counted p z zs in
    let first = one-less (p x) (p z) (each 0) in
    let rest = count-less p xs zs (omega (arith, long)) (λ k. each (suc k)) in
    omega (arith, a, b, first, rest)

at-most-one : (b : Bool) → one_if b ≤ 1
unfolding one_if
at-most-one true = omega arith
at-most-one false = omega arith

-- one that is written counts at most once more
pub count-set : {X : Type 0} (p : X → Bool) (xs : List X) (i : ℕ) (x : X) → count_by p (slice_set xs i x) ≤ count_by p xs + 1
count-set p [] i x = omega arith
count-set p (z ∷ xs) zero x = let a = counted p x xs in let b = counted p z xs in let most = at-most-one (p x) in omega (arith, a, b, most)
count-set p (z ∷ xs) (suc i) x = let a = counted p z (slice_set xs i x) in let b = counted p z xs in let more = count-set p xs i x in omega (arith, a, b, more)

-- lists with the same at each place are the same
pub same-list : {X : Type 0} (xs zs : List X) → length xs ≡ length zs → ((i : ℕ) → slice_get xs i ≡ slice_get zs i) → xs ≡ zs
same-list [] [] long each = refl
same-list [] (z ∷ zs) long each = absurd (omega (arith, long))
same-list (x ∷ xs) [] long each = absurd (omega (arith, long))
same-list {X} (x ∷ xs) (z ∷ zs) long each = let first : Some x ≡ Some z = each 0 in let e : x ≡ z = cc in ap₂ (λ (a : X) (rest : List X). a ∷ rest) e (same-list xs zs (omega (arith, long)) (λ i. each (suc i)))
