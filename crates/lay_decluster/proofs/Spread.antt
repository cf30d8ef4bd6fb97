-- The positions of units and spare places are all positions, each once.
use Rattle.std.specs.Prelude.{◌≡◌, ◌<◌, ◌≤◌, ◌+◌, ◌-◌, ℕ, Bool}
use Rattle.std.proofs.Common.{arith, sym, ap, ◌∙◌}
use Rattle.lay_design.specs.Counting.{count_below}
use Rattle.lay_decluster.specs.Counted.{one_if, count_none, count_more, count_alike, count_both}
use Rattle.lay_decluster.specs.Positions.{unit_position, spare_position, spared_position, IsUnitAt, IsUnitAt.before, IsUnitAt.behind, IsUnitAt.check, unit_at, IsSpareAt, IsSpareAt.next, IsSpareAt.first, spare_at, IsSparedAt, spared_at}

unit_before : (k j i : ℕ) → i < k - 1 → i < j → unit_position k j i ≡ i
unit_before k j i h less = by (unit_position k j i) (unit_at k j i)
  where
    by : (p : ℕ) → IsUnitAt k j i p → p ≡ i
    by p (before a b e) = e
    by p (behind a b e) = omega arith
    by p (check a e) = omega arith

unit_behind : (k j i : ℕ) → i < k - 1 → j ≤ i → unit_position k j i ≡ i + 1
unit_behind k j i h most = by (unit_position k j i) (unit_at k j i)
  where
    by : (p : ℕ) → IsUnitAt k j i p → p ≡ i + 1
    by p (before a b e) = omega arith
    by p (behind a b e) = e
    by p (check a e) = omega arith

pub unit_last : (k j : ℕ) → unit_position k j (k - 1) ≡ j
unit_last k j = by (unit_position k j (k - 1)) (unit_at k j (k - 1))
  where
    by : (p : ℕ) → IsUnitAt k j (k - 1) p → p ≡ j
    by p (before a b e) = omega arith
    by p (behind a b e) = omega arith
    by p (check a e) = e

pub units_everywhere : (h : ℕ → Bool) (k j : ℕ) → j < k → count_below (λ i. h (unit_position k j i)) k ≡ count_below h k
units_everywhere h k j hj =
    let f : ℕ → Bool = λ i. h (unit_position k j i) in
    let m : ℕ = k - 1 - j in
    let all : k ≡ j + (m + 1) = omega arith in
    let turned : k ≡ j + (1 + m) = omega arith in
    let front : count_below f j ≡ count_below h j = count_alike f h j (λ i less. ap h (unit_before k j i (omega arith) less)) in
    let back : count_below (λ i. f (j + i)) m ≡ count_below (λ i. h (j + (1 + i))) m =
    count_alike (λ i. f (j + i)) (λ i. h (j + (1 + i))) m (λ i less. ap h (unit_behind k j (j + i) (omega arith) (omega arith) ∙ omega arith)) in
    let last : one_if (f (j + m)) ≡ one_if (h j) = ap (λ p. one_if (h p)) ((let e : j + m ≡ k - 1 = omega arith in ap (unit_position k j) e) ∙ unit_last k j) in
    let here : one_if (h (j + 0)) ≡ one_if (h j) = (let e : j + 0 ≡ j = omega arith in ap (λ p. one_if (h p)) e) in
    let left : count_below f k ≡ count_below f (j + (m + 1)) = ap (count_below f) all in
    let right : count_below h k ≡ count_below h (j + (1 + m)) = ap (count_below h) turned in
    omega (
      arith,
      front,
      back,
      last,
      here,
      left,
      right,
      count_both f j (m + 1),
      count_more (λ i. f (j + i)) m,
      count_both h j (1 + m),
      count_both (λ i. h (j + i)) 1 m,
      count_more (λ i. h (j + i)) 0,
      count_none (λ i. h (j + i)),
    )

spared_before : (k j i : ℕ) → i < k - 2 → j + 1 < k → i < j → spared_position k j i ≡ i
spared_before k j i h room less = by (spared_position k j i) (spared_at k j i)
  where
    by : (p : ℕ) → IsSparedAt k j i p → p ≡ i
    by p (IsSparedAt.before a b c e) = e
    by p (IsSparedAt.behind a b c e) = omega arith
    by p (IsSparedAt.last a b e) = omega arith
    by p (IsSparedAt.check a e) = omega arith

spared_behind : (k j i : ℕ) → i < k - 2 → j + 1 < k → j ≤ i → spared_position k j i ≡ i + 2
spared_behind k j i h room most = by (spared_position k j i) (spared_at k j i)
  where
    by : (p : ℕ) → IsSparedAt k j i p → p ≡ i + 2
    by p (IsSparedAt.before a b c e) = omega arith
    by p (IsSparedAt.behind a b c e) = e
    by p (IsSparedAt.last a b e) = omega arith
    by p (IsSparedAt.check a e) = omega arith

spared_around : (k j i : ℕ) → i < k - 2 → j + 1 ≡ k → spared_position k j i ≡ i + 1
spared_around k j i h end = by (spared_position k j i) (spared_at k j i)
  where
    by : (p : ℕ) → IsSparedAt k j i p → p ≡ i + 1
    by p (IsSparedAt.before a b c e) = omega arith
    by p (IsSparedAt.behind a b c e) = omega arith
    by p (IsSparedAt.last a b e) = e
    by p (IsSparedAt.check a e) = omega arith

pub spared_last : (k j : ℕ) → spared_position k j (k - 2) ≡ j
spared_last k j = by (spared_position k j (k - 2)) (spared_at k j (k - 2))
  where
    by : (p : ℕ) → IsSparedAt k j (k - 2) p → p ≡ j
    by p (IsSparedAt.before a b c e) = omega arith
    by p (IsSparedAt.behind a b c e) = omega arith
    by p (IsSparedAt.last a b e) = omega arith
    by p (IsSparedAt.check a e) = e

pub spared_everywhere : (h : ℕ → Bool) (k j : ℕ) → 3 ≤ k → j < k → count_below (λ i. h (spared_position k j i)) (k - 1) + one_if (h (spare_position k j)) ≡ count_below h k
spared_everywhere h k j wide hj = by (spare_position k j) (spare_at k j hj)
  where
    f : ℕ → Bool
    f i = h (spared_position k j i)

    by : (p : ℕ) → IsSpareAt k j p → count_below (λ i. h (spared_position k j i)) (k - 1) + one_if (h p) ≡ count_below h k
    by p (next room e) =
        let m : ℕ = k - 2 - j in
        let all : k - 1 ≡ j + (m + 1) = omega arith in
        let turned : k ≡ j + (2 + m) = omega arith in
        let front : count_below f j ≡ count_below h j = count_alike f h j (λ i less. ap h (spared_before k j i (omega arith) room less)) in
        let back : count_below (λ i. f (j + i)) m ≡ count_below (λ i. h (j + (2 + i))) m =
        count_alike (λ i. f (j + i)) (λ i. h (j + (2 + i))) m (λ i less. ap h (spared_behind k j (j + i) (omega arith) room (omega arith) ∙ omega arith)) in
        let last : one_if (f (j + m)) ≡ one_if (h j) = ap (λ p. one_if (h p)) ((let e : j + m ≡ k - 2 = omega arith in ap (spared_position k j) e) ∙ spared_last k j) in
        let here : one_if (h (j + 0)) ≡ one_if (h j) = (let e : j + 0 ≡ j = omega arith in ap (λ p. one_if (h p)) e) in
        let spare : one_if (h (j + 1)) ≡ one_if (h p) = ap (λ p. one_if (h p)) (sym e) in
        let left : count_below f (k - 1) ≡ count_below f (j + (m + 1)) = ap (count_below f) all in
        let right : count_below h k ≡ count_below h (j + (2 + m)) = ap (count_below h) turned in
        let one : count_below (λ i. h (j + i)) 1 ≡ count_below (λ i. h (j + i)) 0 + one_if (h (j + 0)) = count_more (λ i. h (j + i)) 0 in
        let two : count_below (λ i. h (j + i)) 2 ≡ count_below (λ i. h (j + i)) 1 + one_if (h (j + 1)) = count_more (λ i. h (j + i)) 1 in
        omega (
          arith,
          front,
          back,
          last,
          here,
          spare,
          left,
          right,
          one,
          two,
          count_both f j (m + 1),
          count_more (λ i. f (j + i)) m,
          count_both h j (2 + m),
          count_both (λ i. h (j + i)) 2 m,
          count_none (λ i. h (j + i)),
        )
    by p (first end e) =
        let m : ℕ = k - 2 in
        let all : k - 1 ≡ m + 1 = omega arith in
        let turned : k ≡ 1 + (m + 1) = omega arith in
        let front : count_below f m ≡ count_below (λ i. h (1 + i)) m = count_alike f (λ i. h (1 + i)) m (λ i less. ap h (spared_around k j i less end ∙ omega arith)) in
        let last : one_if (f m) ≡ one_if (h (1 + m)) = ap (λ p. one_if (h p)) (spared_last k j ∙ omega arith) in
        let spare : one_if (h 0) ≡ one_if (h p) = ap (λ p. one_if (h p)) (sym e) in
        let left : count_below f (k - 1) ≡ count_below f (m + 1) = ap (count_below f) all in
        let right : count_below h k ≡ count_below h (1 + (m + 1)) = ap (count_below h) turned in
        let one : count_below h 1 ≡ count_below h 0 + one_if (h 0) = count_more h 0 in
        omega (arith, front, last, spare, left, right, one, count_more f m, count_both h 1 (m + 1), count_more (λ i. h (1 + i)) m, count_none h)
