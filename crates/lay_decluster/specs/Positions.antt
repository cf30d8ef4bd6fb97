-- Which unit stands at which position of a tuple of k objects, in copy j of the design.
use Rattle.std.specs.Prelude.{◌≡◌, ◌≢◌, ◌<◌, ◌≤◌, ◌+◌, ◌-◌, ◌%◌, ℕ, Bool, true, false, if◌then◌else◌, nat_lt}
use Rattle.std.proofs.Common.{arith, refl, ap, ◌∙◌, inl, inr}
use Rattle.std.proofs.lemmas.Bool.{ltb-true, ltb-false, cases_lt}
use Rattle.std.proofs.Math.Nat.{mod-eq_of_lt, mod_self}

-- without spare places: the check unit, the last of the k units, stands at position j, and data unit i at the i-th of the others
abbrev pub unit_position : ℕ → ℕ → ℕ → ℕ
unit_position k j i = if nat_lt i (k - 1) then (if nat_lt i j then i else i + 1) else j

-- the spare place stands behind the check unit, around the end
abbrev pub spare_position : ℕ → ℕ → ℕ
spare_position k j = (j + 1) % k

-- with spare places: the check unit, the last of the k - 1 units, stands at position j
abbrev pub spared_position : ℕ → ℕ → ℕ → ℕ
spared_position k j i = if nat_lt i (k - 2) then (if nat_lt (j + 1) k then (if nat_lt i j then i else i + 2) else i + 1) else j

-- what these are, case by case
pub data IsUnitAt (k j i p : ℕ) : Type 0 where
  before : i < k - 1 → i < j → p ≡ i → IsUnitAt k j i p
  behind : i < k - 1 → j ≤ i → p ≡ i + 1 → IsUnitAt k j i p
  check : k - 1 ≤ i → p ≡ j → IsUnitAt k j i p

pub unit_at : (k j i : ℕ) → IsUnitAt k j i (unit_position k j i)
unit_at k j i = by (nat_lt i (k - 1)) (nat_lt i j) refl refl
  where
    by : (a b : Bool) → nat_lt i (k - 1) ≡ a → nat_lt i j ≡ b → IsUnitAt k j i (if a then (if b then i else i + 1) else j)
    by true true e f = before (ltb-true _ _ e) (ltb-true _ _ f) refl
    by true false e f = behind (ltb-true _ _ e) (ltb-false _ _ f) refl
    by false b e f = check (ltb-false _ _ e) refl

pub unit_below : (k j i : ℕ) → j < k → i < k → unit_position k j i < k
unit_below k j i hj hi = by (unit_position k j i) (unit_at k j i)
  where
    by : (p : ℕ) → IsUnitAt k j i p → p < k
    by p (before a b e) = omega arith
    by p (behind a b e) = omega arith
    by p (check a e) = omega arith

pub units_apart : (k j a b : ℕ) → a < k → b < k → unit_position k j a ≡ unit_position k j b → a ≡ b
units_apart k j a b ha hb same = by (unit_position k j a) (unit_position k j b) (unit_at k j a) (unit_at k j b) same
  where
    by : (p q : ℕ) → IsUnitAt k j a p → IsUnitAt k j b q → p ≡ q → a ≡ b
    by p q (before u v e) (before x y f) s = omega arith
    by p q (before u v e) (behind x y f) s = omega arith
    by p q (before u v e) (check x f) s = omega arith
    by p q (behind u v e) (before x y f) s = omega arith
    by p q (behind u v e) (behind x y f) s = omega arith
    by p q (behind u v e) (check x f) s = omega arith
    by p q (check u e) (before x y f) s = omega arith
    by p q (check u e) (behind x y f) s = omega arith
    by p q (check u e) (check x f) s = omega arith

pub data IsSpareAt (k j p : ℕ) : Type 0 where
  next : j + 1 < k → p ≡ j + 1 → IsSpareAt k j p
  first : j + 1 ≡ k → p ≡ 0 → IsSpareAt k j p

pub spare_at : (k j : ℕ) → j < k → IsSpareAt k j (spare_position k j)
spare_at k j h = elim (cases_lt (j + 1) k) [
  | inl less ↦ next less (mod-eq_of_lt less)
  | inr most ↦
      let last : j + 1 ≡ k = omega arith in
      first last (ap (λ x. x % k) last ∙ mod_self k)
]

pub data IsSparedAt (k j i p : ℕ) : Type 0 where
  before : i < k - 2 → j + 1 < k → i < j → p ≡ i → IsSparedAt k j i p
  behind : i < k - 2 → j + 1 < k → j ≤ i → p ≡ i + 2 → IsSparedAt k j i p
  last : i < k - 2 → k ≤ j + 1 → p ≡ i + 1 → IsSparedAt k j i p
  check : k - 2 ≤ i → p ≡ j → IsSparedAt k j i p

pub spared_at : (k j i : ℕ) → IsSparedAt k j i (spared_position k j i)
spared_at k j i = by (nat_lt i (k - 2)) (nat_lt (j + 1) k) (nat_lt i j) refl refl refl
  where
    by : (a b c : Bool) → nat_lt i (k - 2) ≡ a → nat_lt (j + 1) k ≡ b → nat_lt i j ≡ c → IsSparedAt k j i (if a then (if b then (if c then i else i + 2) else i + 1) else j)
    by true true true e f g = before (ltb-true _ _ e) (ltb-true _ _ f) (ltb-true _ _ g) refl
    by true true false e f g = behind (ltb-true _ _ e) (ltb-true _ _ f) (ltb-false _ _ g) refl
    by true false c e f g = last (ltb-true _ _ e) (ltb-false _ _ f) refl
    by false b c e f g = check (ltb-false _ _ e) refl

pub spared_below : (k j i : ℕ) → 3 ≤ k → j < k → i < k - 1 → spared_position k j i < k
spared_below k j i hk hj hi = by (spared_position k j i) (spared_at k j i)
  where
    by : (p : ℕ) → IsSparedAt k j i p → p < k
    by p (before a b c e) = omega arith
    by p (behind a b c e) = omega arith
    by p (last a b e) = omega arith
    by p (check a e) = omega arith

pub spared_apart : (k j a b : ℕ) → 3 ≤ k → j < k → a < k - 1 → b < k - 1 → spared_position k j a ≡ spared_position k j b → a ≡ b
spared_apart k j a b hk hj ha hb same = by (spared_position k j a) (spared_position k j b) (spared_at k j a) (spared_at k j b) same
  where
    by : (p q : ℕ) → IsSparedAt k j a p → IsSparedAt k j b q → p ≡ q → a ≡ b
    by p q (before u v w e) (before x y z f) s = omega arith
    by p q (before u v w e) (behind x y z f) s = omega arith
    by p q (before u v w e) (last x y f) s = omega arith
    by p q (before u v w e) (check x f) s = omega arith
    by p q (behind u v w e) (before x y z f) s = omega arith
    by p q (behind u v w e) (behind x y z f) s = omega arith
    by p q (behind u v w e) (last x y f) s = omega arith
    by p q (behind u v w e) (check x f) s = omega arith
    by p q (last u v e) (before x y z f) s = omega arith
    by p q (last u v e) (behind x y z f) s = omega arith
    by p q (last u v e) (last x y f) s = omega arith
    by p q (last u v e) (check x f) s = omega arith
    by p q (check u e) (before x y z f) s = omega arith
    by p q (check u e) (behind x y z f) s = omega arith
    by p q (check u e) (last x y f) s = omega arith
    by p q (check u e) (check x f) s = omega arith

-- no unit stands at the spare place
pub spare_apart : (k j i : ℕ) → 3 ≤ k → j < k → i < k - 1 → spared_position k j i ≢ spare_position k j
spare_apart k j i hk hj hi same = by (spared_position k j i) (spare_position k j) (spared_at k j i) (spare_at k j hj) same
  where
    by : (p q : ℕ) → IsSparedAt k j i p → IsSpareAt k j q → p ≡ q → ⊥
    by p q (before u v w e) (next x f) s = omega arith
    by p q (before u v w e) (first x f) s = omega arith
    by p q (behind u v w e) (next x f) s = omega arith
    by p q (behind u v w e) (first x f) s = omega arith
    by p q (last u v e) (next x f) s = omega arith
    by p q (last u v e) (first x f) s = omega arith
    by p q (check u e) (next x f) s = omega arith
    by p q (check u e) (first x f) s = omega arith

pub spare_below : (k j : ℕ) → j < k → spare_position k j < k
spare_below k j h = by (spare_position k j) (spare_at k j h)
  where
    by : (p : ℕ) → IsSpareAt k j p → p < k
    by p (next a e) = omega arith
    by p (first a e) = omega arith
