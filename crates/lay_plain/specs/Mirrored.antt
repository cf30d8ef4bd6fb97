-- Level 1: pairs of columns that hold the same.
use Rattle.std.specs.Prelude.{◌≡◌, ◌<◌, ◌≤◌, ◌+◌, ◌*◌, ◌/◌, ◌%◌, ◌⊎◌, ℕ, None}
use Rattle.std.proofs.Common.{arith, refl, ap}
use Rattle.std.proofs.Math.Nat.{mod-lt}
use Rattle.lay_core.specs.declared.place.Place.{Place}
use Rattle.lay_core.specs.Layout.{Shape, IsLayout}
use Rattle.lay_plain.specs.Limits.{IsBetween, IsOutside}
use Rattle.lay_plain.specs.Plain.{plain_lawful}
use Rattle.lay_plain.specs.Rounds.{round_below, some_stripes, same_stripe}

-- so many columns make pairs
abbrev pub ArePairs : ℕ → Type 0
ArePairs n = IsBetween 2 32 n × (n % 2 ≡ 0)

-- or they don't
abbrev pub AreNoPairs : ℕ → Type 0
AreNoPairs n = IsOutside 2 32 n ⊎ (n % 2 ≡ 1)

-- level 1 over n columns with units of u sectors: a stripe is a unit and its copy on the two columns of a pair, and stripes go to the pairs in turn
abbrev pub mirrored : ℕ → ℕ → ℕ → Shape
mirrored n u rows = record {
  columns = n;
  width = 2;
  checks = 1;
  unit_sectors = u;
  stripes = n / 2 * rows;
  rows = rows;
  place = λ s i. record { column = 2 * (s % (n / 2)) + i; row = s / (n / 2) };
  spare = λ s. None;
}

-- level 1 has all laws
pub mirrored_lawful : (n u rows : ℕ) → n % 2 ≡ 0 → 2 ≤ n → n ≤ 32 → 1 ≤ u → u ≤ 128 → 1 ≤ rows → n / 2 * rows ≤ 1048576 → IsLayout (mirrored n u rows)
mirrored_lawful n u rows even columns_least columns_most unit_least unit_most rows_least stripes_most =
    plain_lawful (mirrored n u rows) (record {
      columns_most = columns_most;
      width_most = columns_least;
      checks_most = omega arith;
      checks_below = omega arith;
      unit_least = unit_least;
      unit_most = unit_most;
      stripes_least = some_stripes (n / 2) rows some rows_least;
      stripes_most = stripes_most;
      no_spare = λ s. refl;
      within = λ s i hs hi. (pair_below s i hi, round_below (n / 2) rows s some hs);
      columns_apart = λ s i j hs hi hj e. omega (arith, e);
      stripes_apart = λ s t i j hs ht hi hj e. apart s t i j hi hj (ap (λ (p : Place). p.column) e) (ap (λ (p : Place). p.row) e);
    })
  where
    some : 1 ≤ n / 2
    some = omega (arith, columns_least)

    pair_below : (s i : ℕ) → i < 2 → 2 * (s % (n / 2)) + i < n
    pair_below s i hi = omega (arith, hi, even, mod-lt s some)

    apart : (s t i j : ℕ) → i < 2 → j < 2 → 2 * (s % (n / 2)) + i ≡ 2 * (t % (n / 2)) + j → s / (n / 2) ≡ t / (n / 2) → s ≡ t
    apart s t i j hi hj column row = same_stripe (n / 2) s t row (omega (arith, hi, hj, column))
