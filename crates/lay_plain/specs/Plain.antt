-- What is enough for a layout without spare places, and for one whose stripes are its rows.
use Rattle.std.specs.Prelude.{◌≡◌, ◌<◌, ◌≤◌, ℕ, Option, Some, None}
use Rattle.std.proofs.Math.Nat.{le_refl}
use Rattle.std.proofs.Common.{refl, sym, ap, ◌∙◌}
use Rattle.lay_core.specs.declared.place.Place.{Place}
use Rattle.lay_core.specs.Layout.{Shape, IsLayout, IsWithin}

-- Its numbers lie within the limits, no stripe has two units on a column, and no two stripes have a place in common.
pub record IsPlain (y : Shape) : Type 0 where
  pub columns_most : y.columns ≤ 32
  pub width_most : y.width ≤ y.columns
  pub checks_most : y.checks ≤ 1
  pub checks_below : y.checks < y.width
  pub unit_least : 1 ≤ y.unit_sectors
  pub unit_most : y.unit_sectors ≤ 128
  pub stripes_least : 1 ≤ y.stripes
  pub stripes_most : y.stripes ≤ 1048576
  pub no_spare : (s : ℕ) → y.spare s ≡ None
  pub within : (s i : ℕ) → s < y.stripes → i < y.width → IsWithin y (y.place s i)
  pub columns_apart : (s i j : ℕ) → s < y.stripes → i < y.width → j < y.width → (y.place s i).column ≡ (y.place s j).column → i ≡ j
  pub stripes_apart : (s t i j : ℕ) → s < y.stripes → t < y.stripes → i < y.width → j < y.width → y.place s i ≡ y.place t j → s ≡ t

-- then it has all laws
pub plain_lawful : (y : Shape) → IsPlain y → IsLayout y
plain_lawful y plain = record {
  columns_most = plain.columns_most;
  width_most = plain.width_most;
  checks_most = plain.checks_most;
  checks_below = plain.checks_below;
  unit_least = plain.unit_least;
  unit_most = plain.unit_most;
  stripes_least = plain.stripes_least;
  stripes_most = plain.stripes_most;
  within = plain.within;
  spare_within = λ s p hs e. none s p e;
  one_to_one = λ s t i j hs ht hi hj e.
      let same : s ≡ t = plain.stripes_apart s t i j hs ht hi hj e in
      (same, plain.columns_apart s i j hs hi hj (ap (λ (p : Place). p.column) e ∙ ap (λ (r : ℕ). (y.place r j).column) (sym same)));
  spare_apart = λ s t i p hs ht hi e. none s p e;
  spare_one_to_one = λ s t p hs ht e f. none s p e;
  columns_apart = plain.columns_apart;
  spare_column = λ s i p hs hi e. none s p e;
}
  where
    not_both : (o : Option Place) (p : Place) → o ≡ None → o ≡ Some p → ⊥
    not_both o p is_none is_some = cc

    none : {A : Type 0} (s : ℕ) (p : Place) → y.spare s ≡ Some p → A
    none s p e = absurd (not_both (y.spare s) p (plain.no_spare s) e)

-- Each stripe is a row of all n columns, with its unit i on this column.
abbrev pub by_rows : ℕ → ℕ → ℕ → ℕ → (ℕ → ℕ → ℕ) → Shape
by_rows n checks u rows column = record {
  columns = n;
  width = n;
  checks = checks;
  unit_sectors = u;
  stripes = rows;
  rows = rows;
  place = λ s i. record { column = column s i; row = s };
  spare = λ s. None;
}

-- the numbers that a layout by rows may have
pub record IsInLimits (n checks u rows : ℕ) : Type 0 where
  pub columns_most : n ≤ 32
  pub checks_most : checks ≤ 1
  pub checks_below : checks < n
  pub unit_least : 1 ≤ u
  pub unit_most : u ≤ 128
  pub rows_least : 1 ≤ rows
  pub rows_most : rows ≤ 1048576

-- it has all laws where the units of a stripe lie on different columns
pub by_rows_lawful : (n checks u rows : ℕ) (column : ℕ → ℕ → ℕ) → IsInLimits n checks u rows
    → ((s i : ℕ) → i < n → column s i < n)
    → ((s i j : ℕ) → i < n → j < n → column s i ≡ column s j → i ≡ j)
    → IsLayout (by_rows n checks u rows column)
by_rows_lawful n checks u rows column limits within apart = plain_lawful (by_rows n checks u rows column) (record {
  columns_most = limits.columns_most;
  width_most = le_refl n;
  checks_most = limits.checks_most;
  checks_below = limits.checks_below;
  unit_least = limits.unit_least;
  unit_most = limits.unit_most;
  stripes_least = limits.rows_least;
  stripes_most = limits.rows_most;
  no_spare = λ s. refl;
  within = λ s i hs hi. (within s i hi, hs);
  columns_apart = λ s i j hs hi hj e. apart s i j hi hj e;
  stripes_apart = λ s t i j hs ht hi hj e. ap (λ (p : Place). p.row) e;
})
