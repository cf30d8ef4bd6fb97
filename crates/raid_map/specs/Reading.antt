-- What it is that the maps of the devices in use are read, and what is learnt of them.
use Rattle.std.specs.Prelude.{◌≡◌, ◌≢◌, ◌<◌, ◌≤◌, ◌⊎◌, ◌↔◌, ℕ, List, length, Bool, true, false, Option, Some, None, is_some, slice_get, slice_set, if◌then◌else◌}
use Rattle.blk_disk.specs.declared.disk.Disk.{Ghosts}
use Rattle.blk_disk.specs.Disk.{Tells, call_of}
use Rattle.blk_disk.specs.Devices.{device_at, calls_of, sector_of, contents_of, RisesOn, Changes}
use Rattle.lay_core.specs.Layout.{Shape}
use Rattle.eng_cols.specs.declared.column.Column.{Column}
use Rattle.eng_cols.specs.declared.column.Column.TheVariants as column
use Rattle.eng_cols.specs.Deaths.{Dies, LosesDevice}
use Rattle.eng_cols.specs.Stripes.{states_of}
use Rattle.raid_map.specs.Regions.{regions_in, Marks, is_marked, IsMapOf, Adds}
use Rattle.raid_map.specs.Union.{HasMap, UnionMarks}
use Rattle.eng_cols.specs.Cols.{HasDeviceOn, has_device}

-- it is there, and true
abbrev pub is_true : Option Bool → Bool
is_true None = false
is_true (Some found) = found

-- It is a map of the same array, which marks what the old one does.
pub record Grows (old new : Marks) : Type 0 where
  pub stripes : new.stripes ≡ old.stripes
  pub serial : new.serial ≡ old.serial
  pub count : length new.marks ≡ length old.marks
  pub kept : (r : ℕ) → is_marked old.marks r ≡ true → is_marked new.marks r ≡ true

-- the sector is a map of the array, as is said, and its regions are added; or it is none, and nothing is
abbrev pub AddsFound : Marks → Marks → List ℕ → Bool → Type 0
AddsFound old new sector true = IsMapOf old sector × Adds old new sector
AddsFound old new sector false = (IsMapOf old sector → ⊥) × (new ≡ old)

-- What comes of a sector that was read, where it is told; nothing is added where that failed.
abbrev pub AddsRead : Type 0 → Marks → Marks → List ℕ → Option Bool → Type 0
AddsRead told old new sector None = new ≡ old
AddsRead told old new sector (Some found) = Grows old new × (told → AddsFound old new sector found)

module _ {D : Type 0} (g : Ghosts D) where
  -- Sector 1 of device d was read, well or not, and no other device was called. No sector changed.
  pub record IsReading (d : ℕ) (old new : List (Option D)) (good : Bool) : Type 0 where
    pub frame : Changes g (λ _ _. ⊥) old new
    pub cause : good ≡ false → RisesOn g old new d
    pub told : Tells (calls_of g old d) (calls_of g new d) (call_of 0 1 512 good)
    pub others : (k : ℕ) → k ≢ d → device_at new k ≡ device_at old k

  -- The map of column c was read, and the column is dead where that failed; it is said whether there is one.
  pub record ReadsColumn (c : ℕ) (columns after : List Column) (old new : List (Option D)) (was is : Marks) (found : Bool) : Type 0 where
    pub device : ℕ
    pub answer : Option Bool
    pub on : HasDeviceOn columns c device
    pub reading : IsReading device old new (is_some answer)
    pub after_is : after ≡ (if is_some answer then columns else slice_set columns c column.Dead)
    pub adds : AddsRead g.tells was is (sector_of g old device 1) answer
    pub found_is : found ≡ is_true answer

  -- The maps of the first n columns were read. No sector has changed; a column has died where its device failed, and no other died; the device of each of them that has one had one call more, to read its map, and the column has it still exactly where that went well; no other device was called.
  pub record AreRead (n : ℕ) (columns after : List Column) (old new : List (Option D)) : Type 0 where
    pub frame : Changes g (λ _ _. ⊥) old new
    pub dies : Dies (LosesDevice g columns old new) columns after
    pub once : (c d : ℕ) → c < n → HasDeviceOn columns c d → Tells (calls_of g old d) (calls_of g new d) (call_of 0 1 512 (has_device (slice_get after c)))
    pub others : (d : ℕ) → ((c : ℕ) → c < n → HasDeviceOn columns c d → ⊥) → device_at new d ≡ device_at old d
    pub kept : (c : ℕ) → n ≤ c → slice_get after c ≡ slice_get columns c

  -- The map marks what it marked, and the regions that the union of these devices' maps marks; and it is said whether one of them has a map of the array. This is so for every layout of so many stripes.
  pub record IsUnion (y : Shape) (columns : List Column) (devices : List (Option D)) (old new : Marks) (any : Bool) : Type 0 where
    pub marks : (r : ℕ) → r < regions_in y.stripes → (is_marked new.marks r ≡ true) ↔ ((is_marked old.marks r ≡ true) ⊎ UnionMarks y old.serial (states_of y columns) (contents_of g devices) r)
    pub found : (any ≡ true) ↔ HasMap y old.serial (states_of y columns) (contents_of g devices)
