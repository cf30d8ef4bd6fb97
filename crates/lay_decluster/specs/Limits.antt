-- The numbers that a layout may be made of.
use Rattle.std.specs.Prelude.{◌≡◌, ◌≢◌, ◌<◌, ◌≤◌, ◌*◌, ◌/◌, ◌%◌, ◌⊎◌, ℕ}
use Rattle.lay_design.specs.Design.{Blocks, IsDesign}

-- the rows of a full table: each of the k copies of the design fills r rows of every column
abbrev pub table_rows : Blocks → ℕ
table_rows d = d.k * d.r

-- the stripes of a full table
abbrev pub table_stripes : Blocks → ℕ
table_stripes d = d.k * d.b

-- the stripes that so many rows make: k b of each full table of k r rows
abbrev pub stripes_in : Blocks → ℕ → ℕ
stripes_in d rows = d.k * d.b * (rows / (d.k * d.r))

-- a unit has 1 to 128 sectors
abbrev pub IsUnit : ℕ → Type 0
IsUnit u = (1 ≤ u) × (u ≤ 128)

-- or it hasn't
abbrev pub IsNoUnit : ℕ → Type 0
IsNoUnit u = (u < 1) ⊎ (128 < u)

-- the rows aren't a whole number of full tables, or there are none, or they make too many stripes
abbrev pub AreNoTables : Blocks → ℕ → Type 0
AreNoTables d rows = (rows % table_rows d ≢ 0) ⊎ ((rows ≡ 0) ⊎ (1048576 < stripes_in d rows))

-- a design, and numbers that a layout may have
pub record IsTabled (d : Blocks) (u rows : ℕ) : Type 0 where
  pub design : IsDesign d
  pub unit_least : 1 ≤ u
  pub unit_most : u ≤ 128
  pub rows_least : 1 ≤ rows
  pub rows_most : rows ≤ 4294967295
  pub whole : rows % table_rows d ≡ 0
  pub stripes_most : stripes_in d rows ≤ 1048576
