-- One pass over the columns: the device of each that has one gets its label, in ascending order.
use Rattle.std.specs.Prelude.{◌≡◌, ◌≢◌, ◌<◌, ◌≤◌, ◌+◌, ℕ, List, length, Bool, true, false, Option, All, slice_get, slice_set, if◌then◌else◌}
use Rattle.blk_disk.specs.declared.disk.Disk.{Ghosts}
use Rattle.blk_disk.specs.Disk.{Tells, call_of}
use Rattle.blk_disk.specs.Devices.{device_at, size_of, sector_of, calls_of, RisesOn, Changes}
use Rattle.eng_cols.specs.declared.column.Column.{Column}
use Rattle.eng_cols.specs.declared.column.Column.TheVariants as column
use Rattle.eng_cols.specs.Deaths.{Dies, LosesDevice}
use Rattle.raid_label.specs.declared.label.Label.{Label}
use Rattle.raid_label.specs.Bytes.{bytes_of}
use Rattle.top_close.specs.Reserved.{IsReserved}
use Rattle.top_close.specs.Settled.{HaveDevices}
use Rattle.top_rounds.specs.Calls.{WritesOn, WritesWithin}
use Rattle.top_rounds.specs.Labels.{IsNumbered, for_column}
use Rattle.eng_cols.specs.Cols.{HasDeviceOn, has_device}

-- the sector of the label on the device of a column, or of an array with maps one of the two
pub record IsKeptInUse (mapped : Bool) (columns : List Column) (d n : ℕ) : Type 0 where
  pub col : ℕ
  pub live : HasDeviceOn columns col d
  pub kept : IsReserved mapped n

module _ {D : Type 0} (g : Ghosts D) where
  -- There are at most 32 columns, whose devices are theirs or at most 8 spares. The device of each column that has one is there, is no other's, and has a sector.
  pub record CanBeLabelled (columns : List Column) (devices : List (Option D)) : Type 0 where
    pub have : HaveDevices columns devices
    pub sized : (c d : ℕ) → HasDeviceOn columns c d → 1 ≤ size_of g devices d
    pub columns_most : length columns ≤ 32
    pub numbered : All (IsNumbered (length columns)) columns

  -- where it is told, sector 0 of device d holds this label of column c
  abbrev pub HoldsLabel : List (Option D) → Label → ℕ → ℕ → Type 0
  HoldsLabel devices label c d = g.tells → sector_of g devices d 0 ≡ bytes_of (record label { column = c })

  -- Device d got a label, well or not, and no other was called.
  pub record IsLabelling (d : ℕ) (label : Label) (old new : List (Option D)) (good : Bool) : Type 0 where
    pub frame : Changes g (λ k n. (k ≡ d) × IsReserved false n) old new
    pub cause : good ≡ false → RisesOn g old new d
    pub held : good ≡ true → g.tells → sector_of g new d 0 ≡ bytes_of label
    pub told : Tells (calls_of g old d) (calls_of g new d) (call_of 1 0 512 good)
    pub others : (k : ℕ) → k ≢ d → device_at new k ≡ device_at old k

  -- Column c, which has a device, got its label, and is dead where that failed.
  pub record LabelsColumn (c : ℕ) (label : Label) (columns after : List Column) (old new : List (Option D)) (good : Bool) : Type 0 where
    pub device : ℕ
    pub live : HasDeviceOn columns c device
    pub labelling : IsLabelling device (for_column label c) old new good
    pub after_is : after ≡ (if good then columns else slice_set columns c column.Dead)

  -- The first n columns got their labels. No sector has changed but sector 0 of devices in use; a column has died where its device failed, and no other died; the device of each of the first n that has one had one call more, to write sector 0, and the column has it still, and the label is there, exactly where that went well; no other device was called. None got more than one label.
  pub record AreLabelled (n : ℕ) (label : Label) (columns after : List Column) (old new : List (Option D)) : Type 0 where
    pub frame : Changes g (IsKeptInUse false columns) old new
    pub dies : Dies (LosesDevice g columns old new) columns after
    pub held : (c d : ℕ) → c < n → HasDeviceOn after c d → HoldsLabel new label c d
    pub once : (c d : ℕ) → c < n → HasDeviceOn columns c d → Tells (calls_of g old d) (calls_of g new d) (call_of 1 0 512 (has_device (slice_get after c)))
    pub others : (d : ℕ) → ((c : ℕ) → c < n → HasDeviceOn columns c d → ⊥) → device_at new d ≡ device_at old d
    pub left : (c : ℕ) → n ≤ c → slice_get after c ≡ slice_get columns c
    pub told : (d : ℕ) → WritesOn (calls_of g old d) (calls_of g new d)
    pub times : (d : ℕ) → WritesWithin 0 1 (calls_of g old d) (calls_of g new d)

  -- the last of so many columns is the one that died
  pub record EndsByDeath (n : ℕ) (columns after : List Column) (old new : List (Option D)) : Type 0 where
    pub col : ℕ
    pub last : n ≡ col + 1
    pub loses : LosesDevice g columns old new col
    pub after_is : after ≡ slice_set columns col column.Dead

  -- a pass that is good took all columns, and none died; another ended by the first death
  abbrev pub EndsPass : ℕ → List Column → List Column → List (Option D) → List (Option D) → Bool → Type 0
  EndsPass n columns after old new true = (n ≡ length columns) × (after ≡ columns)
  EndsPass n columns after old new false = EndsByDeath n columns after old new

  -- One round was tried: a pass that ends by the first write that fails.
  pub record IsTry (label : Label) (columns after : List Column) (old new : List (Option D)) (good : Bool) : Type 0 where
    pub taken : ℕ
    pub labelled : AreLabelled taken label columns after old new
    pub ends : EndsPass taken columns after old new good
