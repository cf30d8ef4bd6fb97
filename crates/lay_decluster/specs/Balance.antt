-- What declustering is for: in each full table of stripes any two columns share the same number of stripes, and each column has as many check units and spare places as any other.
use Rattle.std.specs.Prelude.{◌≡◌, ◌≢◌, ◌<◌, ◌≤◌, ◌+◌, ◌*◌, ◌==◌, ◌&&◌, ℕ, Bool, false, Option, Some, None, nat_lt}
use Rattle.lay_core.specs.declared.place.Place.{Place}
use Rattle.lay_core.specs.Layout.{Shape, data_units}
use Rattle.lay_design.specs.Counting.{count_below}

-- stripe s has a unit on column x
abbrev pub has_unit : Shape → ℕ → ℕ → Bool
has_unit y x s = nat_lt 0 (count_below (λ i. (y.place s i).column == x) y.width)

-- the check unit of stripe s is on column x
abbrev pub has_check : Shape → ℕ → ℕ → Bool
has_check y x s = (y.place s (data_units y)).column == x

-- a place is on column x
abbrev pub is_on : ℕ → Option Place → Bool
is_on x None = false
is_on x (Some p) = p.column == x

-- the spare place of stripe s is on column x
abbrev pub has_spare : Shape → ℕ → ℕ → Bool
has_spare y x s = is_on x (y.spare s)

-- how many of the n stripes of table q pass a test
abbrev pub count_in_table : ℕ → ℕ → (ℕ → Bool) → ℕ
count_in_table n q test = count_below (λ s. test (q * n + s)) n

-- in each table of n stripes each two columns have so many stripes with units on both, and each column has so many check units and spare places
pub record IsBalanced (y : Shape) (n pairs checks spares : ℕ) : Type 0 where
  pub shared : (q x z : ℕ) → q * n + n ≤ y.stripes → x < y.columns → z < y.columns → x ≢ z → count_in_table n q (λ s. has_unit y x s && has_unit y z s) ≡ pairs
  pub check_units : (q x : ℕ) → q * n + n ≤ y.stripes → x < y.columns → count_in_table n q (has_check y x) ≡ checks
  pub spare_places : (q x : ℕ) → q * n + n ≤ y.stripes → x < y.columns → count_in_table n q (has_spare y x) ≡ spares
