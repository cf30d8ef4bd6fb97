-- A position takes the lowest free row of its column, and data units stand in tuple order.
use Rattle.std.specs.Prelude.{◌≡◌, ◌<◌, ◌≤◌, ◌+◌, ◌-◌, ◌==◌, ℕ, zero, suc, Bool, true, false}
use Rattle.std.proofs.Common.{arith, refl, ap, ◌∙◌, inl, inr}
use Rattle.std.proofs.lemmas.Bool.{cases_lt, eqb-true}
use Rattle.std.proofs.Math.Nat.{mod-lt}
use Rattle.lay_design.specs.Counting.{count_below}
use Rattle.lay_design.specs.Blocks.{object}
use Rattle.lay_design.specs.Design.{Blocks, IsDesign}
use Rattle.lay_decluster.specs.Counted.{one_if, count_none, count_more}
use Rattle.lay_decluster.specs.Positions.{unit_position, spared_position, IsUnitAt, unit_at, IsSparedAt, spared_at}
use Rattle.lay_decluster.specs.Table.{tuple_of, column_at, lies_on, free_row, seat, IsTaken}
use Rattle.lay_decluster.specs.Seats.{seats_apart}
use Rattle.lay_decluster.proofs.Objects.{object_once}

-- the number that passes a test with w before it
found : (f : ℕ → Bool) (s w : ℕ) → w < count_below f s → (t : ℕ) × (t < s) × (f t ≡ true) × (count_below f t ≡ w)
found f zero w h = absurd (omega (arith, h, count_none f))
found f (suc s) w h = elim (cases_lt w (count_below f s)) [
  | inl less ↦ (let r = found f s w less in (r.0, omega (arith, r.1), r.2, r.3))
  | inr most ↦ (
    s,
    omega arith,
    by (f s) most refl,
    omega (arith, most, upper, few (f s)),
  )
]
  where
    upper : w < count_below f s + one_if (f s)
    upper = let next : suc s ≡ s + 1 = omega arith in omega (arith, h, ap (count_below f) next, count_more f s)

    few : (b : Bool) → one_if b ≤ 1
    few true = omega arith
    few false = omega arith

    by : (b : Bool) → count_below f s ≤ w → f s ≡ b → f s ≡ true
    by true most e = e
    by false most e = let none : one_if (f s) ≡ 0 = ap one_if e in absurd (omega (arith, upper, none, most))

pub lower_rows_are_taken : (d : Blocks) (s p w : ℕ) → IsDesign d → p < d.k → w < (seat d s p).row → IsTaken d s (record { column = (seat d s p).column; row = w })
lower_rows_are_taken d s p w design hp h =
    let x : ℕ = column_at d s p in
    let r = found (lies_on d x) s w h in
    let below : tuple_of d r.0 < d.b = mod-lt r.0 (omega (arith, design.numbers.tuples_least)) in
    let one : one_if (lies_on d x r.0) ≡ 1 = ap one_if r.2 in
    let there = found (λ q. object d.k d.objects (tuple_of d r.0) q == x) d.k 0 (omega (arith, object_once d design (tuple_of d r.0) x below, one)) in
    let column : column_at d r.0 there.0 ≡ x = eqb-true (column_at d r.0 there.0) x there.2 in
    (r.0, there.0, r.1, there.1, ap (λ c. record { column = c; row = free_row d c r.0 }) column ∙ ap (λ n. record { column = x; row = n }) r.3)

pub seats_are_free : (d : Blocks) (s p : ℕ) → IsDesign d → p < d.k → ¬ (IsTaken d s (seat d s p))
seats_are_free d s p design hp taken =
    let same = seats_apart d design taken.0 s taken.1 p taken.3 hp taken.4 in
    omega (arith, taken.2, same.0)

pub units_ascend : (k j a b : ℕ) → a < b → b < k - 1 → unit_position k j a < unit_position k j b
units_ascend k j a b less most = by (unit_position k j a) (unit_position k j b) (unit_at k j a) (unit_at k j b)
  where
    by : (p q : ℕ) → IsUnitAt k j a p → IsUnitAt k j b q → p < q
    by p q (IsUnitAt.before u v e) (IsUnitAt.before x y f) = omega arith
    by p q (IsUnitAt.before u v e) (IsUnitAt.behind x y f) = omega arith
    by p q (IsUnitAt.before u v e) (IsUnitAt.check x f) = omega arith
    by p q (IsUnitAt.behind u v e) (IsUnitAt.before x y f) = omega arith
    by p q (IsUnitAt.behind u v e) (IsUnitAt.behind x y f) = omega arith
    by p q (IsUnitAt.behind u v e) (IsUnitAt.check x f) = omega arith
    by p q (IsUnitAt.check u e) y = omega arith

pub spared_ascend : (k j a b : ℕ) → a < b → b < k - 2 → spared_position k j a < spared_position k j b
spared_ascend k j a b less most = by (spared_position k j a) (spared_position k j b) (spared_at k j a) (spared_at k j b)
  where
    by : (p q : ℕ) → IsSparedAt k j a p → IsSparedAt k j b q → p < q
    by p q (IsSparedAt.before u v w e) (IsSparedAt.before x y z f) = omega arith
    by p q (IsSparedAt.before u v w e) (IsSparedAt.behind x y z f) = omega arith
    by p q (IsSparedAt.before u v w e) (IsSparedAt.last x y f) = omega arith
    by p q (IsSparedAt.before u v w e) (IsSparedAt.check x f) = omega arith
    by p q (IsSparedAt.behind u v w e) (IsSparedAt.before x y z f) = omega arith
    by p q (IsSparedAt.behind u v w e) (IsSparedAt.behind x y z f) = omega arith
    by p q (IsSparedAt.behind u v w e) (IsSparedAt.last x y f) = omega arith
    by p q (IsSparedAt.behind u v w e) (IsSparedAt.check x f) = omega arith
    by p q (IsSparedAt.last u v e) (IsSparedAt.before x y z f) = omega arith
    by p q (IsSparedAt.last u v e) (IsSparedAt.behind x y z f) = omega arith
    by p q (IsSparedAt.last u v e) (IsSparedAt.last x y f) = omega arith
    by p q (IsSparedAt.last u v e) (IsSparedAt.check x f) = omega arith
    by p q (IsSparedAt.check u e) y = omega arith
