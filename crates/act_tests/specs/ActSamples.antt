-- Arrays as the tests have them: each column is dead, or live on the device of its own number, which is large enough.
use Rattle.std.specs.Prelude.{◌≡◌, ◌≤◌, ◌+◌, ◌*◌, ℕ, List, Option, Some, None, slice_get}
use Rattle.blk_disk.specs.declared.disk.Disk.{Ghosts}
use Rattle.blk_disk.specs.Devices.{size_of}
use Rattle.lay_core.specs.Layout.{Shape}
use Rattle.eng_cols.specs.declared.column.Column.{Column}
use Rattle.eng_cols.specs.declared.column.Column.TheVariants as column

-- the column is so
abbrev pub Fits : {D : Type 0} → Ghosts D → Shape → List (Option D) → ℕ → Option Column → Type 0
Fits g y devices c (Some (column.Live d)) = (d ≡ c) × (64 + y.rows * y.unit_sectors ≤ size_of g devices c)
Fits g y devices c (Some column.Dead) = Unit {0}
Fits g y devices c (Some (column.Filling d m)) = ⊥
Fits g y devices c (Some column.Spread) = ⊥
Fits g y devices c None = Unit {0}

abbrev pub FitsAt : {D : Type 0} → Ghosts D → Shape → List Column → List (Option D) → ℕ → Type 0
FitsAt g y columns devices c = Fits g y devices c (slice_get columns c)
