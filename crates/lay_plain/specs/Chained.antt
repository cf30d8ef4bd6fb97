-- Chained declustering: each unit's copy is on the next column.
use Rattle.std.specs.Prelude.{◌≡◌, ◌<◌, ◌≤◌, ◌+◌, ◌*◌, ◌/◌, ◌%◌, ◌⊎◌, ℕ, None}
use Rattle.std.proofs.Common.{arith, refl, ap, ◌∙◌}
use Rattle.std.proofs.Math.Nat.{mod-lt}
use Rattle.lay_core.specs.declared.place.Place.{Place}
use Rattle.lay_core.specs.Layout.{Shape, IsLayout}
use Rattle.lay_plain.specs.Plain.{plain_lawful}
use Rattle.lay_plain.specs.Rotation.{remainders_differ}
use Rattle.lay_plain.specs.Rounds.{round_below, some_stripes, same_turn}

-- so many rows of n columns make no rounds of two rows each: there are too few, an odd number, or more than 1,048,576 stripes
abbrev pub AreNoRounds : ℕ → ℕ → Type 0
AreNoRounds n rows = (rows < 2) ⊎ ((rows % 2 ≡ 1) ⊎ (1048576 < n * (rows / 2)))

-- level C over n columns with units of u sectors: in each round of two rows every column has one stripe's unit in the first, and in the second the copy of the unit on the column before it
abbrev pub chained : ℕ → ℕ → ℕ → Shape
chained n u rows = record {
  columns = n;
  width = 2;
  checks = 1;
  unit_sectors = u;
  stripes = n * (rows / 2);
  rows = rows;
  place = λ s i. record { column = (s + i) % n; row = 2 * (s / n) + i };
  spare = λ s. None;
}

-- level C has all laws
pub chained_lawful : (n u rows : ℕ) → 2 ≤ n → n ≤ 32 → 1 ≤ u → u ≤ 128 → 2 ≤ rows → n * (rows / 2) ≤ 1048576 → IsLayout (chained n u rows)
chained_lawful n u rows columns_least columns_most unit_least unit_most rows_least stripes_most =
    plain_lawful (chained n u rows) (record {
      columns_most = columns_most;
      width_most = columns_least;
      checks_most = omega arith;
      checks_below = omega arith;
      unit_least = unit_least;
      unit_most = unit_most;
      stripes_least = some_stripes n (rows / 2) some (omega (arith, rows_least));
      stripes_most = stripes_most;
      no_spare = λ s. refl;
      within = λ s i hs hi. (mod-lt (s + i) some, row_below s i hs hi);
      columns_apart = λ s i j hs hi hj e. remainders_differ n s i j (omega (arith, hi, columns_least)) (omega (arith, hj, columns_least)) e;
      stripes_apart = λ s t i j hs ht hi hj e. apart s t i j hi hj (ap (λ (p : Place). p.column) e) (ap (λ (p : Place). p.row) e);
    })
  where
    some : 1 ≤ n
    some = omega (arith, columns_least)

    row_below : (s i : ℕ) → s < n * (rows / 2) → i < 2 → 2 * (s / n) + i < rows
    row_below s i hs hi = omega (arith, hi, round_below n (rows / 2) s some hs)

    apart : (s t i j : ℕ) → i < 2 → j < 2 → (s + i) % n ≡ (t + j) % n → 2 * (s / n) + i ≡ 2 * (t / n) + j → s ≡ t
    apart s t i j hi hj column row =
        let units : j ≡ i = omega (arith, hi, hj, row) in
        same_turn n s t i some (omega (arith, hi, hj, row)) (column ∙ ap (λ (k : ℕ). (t + k) % n) units)
