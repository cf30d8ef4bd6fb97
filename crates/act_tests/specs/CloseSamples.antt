-- Arrays as the tests have them: each column is dead, or live on the device of its own number.
use Rattle.std.specs.Prelude.{◌≡◌, ℕ, List, Option, Some, None, IsSome, slice_get}
use Rattle.blk_disk.specs.Devices.{device_at}
use Rattle.eng_cols.specs.declared.column.Column.{Column}
use Rattle.eng_cols.specs.declared.column.Column.TheVariants as column

-- the column is so, and its device is there
abbrev pub Fits : {D : Type 0} → List (Option D) → ℕ → Option Column → Type 0
Fits devices c (Some (column.Live d)) = (d ≡ c) × IsSome (device_at devices c)
Fits devices c (Some column.Dead) = Unit {0}
Fits devices c (Some (column.Filling d m)) = ⊥
Fits devices c (Some column.Spread) = ⊥
Fits devices c None = Unit {0}

abbrev pub FitsAt : {D : Type 0} → List Column → List (Option D) → ℕ → Type 0
FitsAt columns devices c = Fits devices c (slice_get columns c)
