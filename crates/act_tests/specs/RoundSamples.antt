-- Arrays as the tests have them: each column is dead, or live on the device of its own number, which has a sector.
use Rattle.std.specs.Prelude.{◌≡◌, ◌≤◌, ℕ, List, Option, Some, None, IsSome, slice_get}
use Rattle.blk_disk.specs.declared.disk.Disk.{Ghosts}
use Rattle.blk_disk.specs.Devices.{device_at, size_of}
use Rattle.eng_cols.specs.declared.column.Column.{Column}
use Rattle.eng_cols.specs.declared.column.Column.TheVariants as column

-- the column is so, and its device is there and has a sector
abbrev pub Fits : {D : Type 0} → Ghosts D → List (Option D) → ℕ → Option Column → Type 0
Fits g devices c (Some (column.Live d)) = (d ≡ c) × IsSome (device_at devices c) × (1 ≤ size_of g devices c)
Fits g devices c (Some column.Dead) = Unit {0}
Fits g devices c (Some (column.Filling d m)) = ⊥
Fits g devices c (Some column.Spread) = ⊥
Fits g devices c None = Unit {0}

abbrev pub FitsAt : {D : Type 0} → Ghosts D → List Column → List (Option D) → ℕ → Type 0
FitsAt g columns devices c = Fits g devices c (slice_get columns c)
