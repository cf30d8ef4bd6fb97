-- What sweeps go over: columns, and the devices that they have.
use Rattle.std.specs.Prelude.{◌≡◌, ℕ, ◌+◌, ◌*◌, ◌<◌, ◌≤◌, List, length, true, false, Option, Some}
use Rattle.blk_disk.specs.declared.disk.Disk.{Ghosts}
use Rattle.blk_disk.specs.Devices.{size_of, RisesOn}
use Rattle.lay_core.specs.Layout.{Shape, data_units}
use Rattle.eng_cols.specs.declared.column.Column.{Column}
use Rattle.eng_cols.specs.declared.spot.Spot.{Spot}
use Rattle.eng_cols.specs.Cols.{ColumnState, Columns, HasDevice, InOrder, IsFor}
use Rattle.eng_cols.specs.Stripes.{states_of}
use Rattle.eng_cols.specs.Seats.{is_available, seat}
use Rattle.eng_cols.specs.Contents.{sector_at}

-- Each device that these columns have is in no other of them, and has room for the rows; at most one column is filling, and at most one spread.
pub record AreSeated {D : Type 0} (g : Ghosts D) (y : Shape) (cols : List ColumnState) (devices : List (Option D)) : Type 0 where
  pub order : InOrder cols
  pub there : (c d : ℕ) → HasDevice cols c d → 64 + y.rows * y.unit_sectors ≤ size_of g devices d

-- There is one entry for each column; each device of a column is in no other and has room for the rows; at most one column is filling, and at most one spread.
pub record IsArray {D : Type 0} (g : Ghosts D) (y : Shape) (columns : List Column) (devices : List (Option D)) : Type 0 where
  pub entries : length columns ≡ y.columns
  pub order : InOrder (states_of y columns)
  pub there : (c d : ℕ) → HasDevice (states_of y columns) c d → 64 + y.rows * y.unit_sectors ≤ size_of g devices d

-- the judge has these columns
pub record IsJudge (y : Shape) (columns : List Column) (judge : Columns) : Type 0 where
  pub fit : IsFor y judge
  pub states : judge.states ≡ states_of y columns

-- no unit of the stripe is missing
abbrev pub IsComplete : Shape → List ColumnState → ℕ → Type 0
IsComplete y cols s = (i : ℕ) → i < y.width → is_available y cols s i ≡ true

-- one is
abbrev pub Lacks : Shape → List ColumnState → ℕ → Type 0
Lacks y cols s = (i : ℕ) × (i < y.width) × (is_available y cols s i ≡ false)

-- sector n of device d is one of the stripe's check unit
pub record IsCheckSector (y : Shape) (cols : List ColumnState) (s d n : ℕ) : Type 0 where
  pub at : Spot
  pub offset : ℕ
  pub stands : seat y cols s (data_units y) ≡ Some at
  pub device : d ≡ at.device
  pub within : offset < y.unit_sectors
  pub sector : n ≡ sector_at y at offset

-- the column had a device, whose count of faults rose
pub record Failed {D : Type 0} (g : Ghosts D) (cols : List ColumnState) (old new : List (Option D)) (c : ℕ) : Type 0 where
  pub device : ℕ
  pub had : HasDevice cols c device
  pub rose : RisesOn g old new device
