-- Levels 0 and 4: unit i of each stripe lies on column i.
use Rattle.std.specs.Prelude.{◌≤◌, ℕ}
use Rattle.std.proofs.Common.{arith}
use Rattle.lay_core.specs.Layout.{Shape, IsLayout}
use Rattle.lay_plain.specs.Plain.{IsInLimits, by_rows, by_rows_lawful}

-- level 0 over n columns with units of u sectors: each stripe is a row of data units
abbrev pub striped : ℕ → ℕ → ℕ → Shape
striped n u rows = by_rows n 0 u rows (λ s i. i)

-- level 4: each stripe is a row, and its check unit lies on the last column
abbrev pub last_checked : ℕ → ℕ → ℕ → Shape
last_checked n u rows = by_rows n 1 u rows (λ s i. i)

straight_lawful : (n checks u rows : ℕ) → IsInLimits n checks u rows → IsLayout (by_rows n checks u rows (λ s i. i))
straight_lawful n checks u rows limits = by_rows_lawful n checks u rows (λ s i. i) limits (λ s i h. h) (λ s i j hi hj e. e)

-- level 0 has all laws
pub striped_lawful : (n u rows : ℕ) → 1 ≤ n → n ≤ 32 → 1 ≤ u → u ≤ 128 → 1 ≤ rows → rows ≤ 1048576 → IsLayout (striped n u rows)
striped_lawful n u rows columns_least columns_most unit_least unit_most rows_least rows_most = straight_lawful n 0 u rows limits
  where
    limits : IsInLimits n 0 u rows
    limits = record {
      columns_most = columns_most;
      checks_most = omega arith;
      checks_below = columns_least;
      unit_least = unit_least;
      unit_most = unit_most;
      rows_least = rows_least;
      rows_most = rows_most;
    }

-- level 4 has all laws
pub last_checked_lawful : (n u rows : ℕ) → 2 ≤ n → n ≤ 32 → 1 ≤ u → u ≤ 128 → 1 ≤ rows → rows ≤ 1048576 → IsLayout (last_checked n u rows)
last_checked_lawful n u rows columns_least columns_most unit_least unit_most rows_least rows_most = straight_lawful n 1 u rows limits
  where
    limits : IsInLimits n 1 u rows
    limits = record {
      columns_most = columns_most;
      checks_most = omega arith;
      checks_below = columns_least;
      unit_least = unit_least;
      unit_most = unit_most;
      rows_least = rows_least;
      rows_most = rows_most;
    }
