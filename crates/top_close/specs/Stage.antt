-- What each stage of work on an array does, whichever it is: sectors that change, calls that come, columns that die.
use Rattle.std.specs.Prelude.{◌≡◌, ◌≢◌, ◌⊎◌, ◌≤◌, ◌+◌, ℕ, List, length, true, Option, Some, None, All, AllPairs, count_by, slice_get, []}
use Rattle.blk_disk.specs.declared.disk.Call.{Call}
use Rattle.blk_disk.specs.declared.disk.Disk.{Ghosts}
use Rattle.blk_disk.specs.Devices.{calls_of, RisesOn, Changes}
use Rattle.eng_cols.specs.declared.column.Column.{Column}
use Rattle.eng_cols.specs.declared.spot.Loss.{Loss}
use Rattle.eng_cols.specs.Cols.{is_set_filling, passes, HasDeviceOn, has_device}
use Rattle.eng_cols.specs.Deaths.{Dies, LosesDevice}
use Rattle.top_close.specs.Calls.{MoreOn}

-- ## Columns and their devices

-- how many columns have a device
abbrev pub device_count : List Column → ℕ
device_count columns = count_by (λ column. has_device (Some column)) columns

-- a column has this device
pub record IsInUse (columns : List Column) (d : ℕ) : Type 0 where
  pub col : ℕ
  pub live : HasDeviceOn columns col d

-- the array is lost, and the column was filling
abbrev pub IsGivenUp : Option Loss → List Column → ℕ → Type 0
IsGivenUp None columns c = ⊥
IsGivenUp (Some loss) columns c = passes is_set_filling (slice_get columns c) ≡ true

-- where the array is lost no column is filling any more
abbrev pub IsGivenUpIn : Option Loss → List Column → Type 0
IsGivenUpIn None columns = Unit {0}
IsGivenUpIn (Some loss) columns = count_by is_set_filling columns ≡ 0

module _ {D : Type 0} (g : Ghosts D) where
  -- why a column died: its device failed, or it was filling and the array is lost
  abbrev pub DiesIn : Option Loss → List Column → List (Option D) → List (Option D) → ℕ → Type 0
  DiesIn lost columns old new c = LosesDevice g columns old new c ⊎ IsGivenUp lost columns c

  -- different devices, of each of which the count of faults rose
  pub record HaveFailed (old new : List (Option D)) (rises : List ℕ) : Type 0 where
    pub apart : AllPairs (λ d e. d ≢ e) rises
    pub rose : All (RisesOn g old new) rises

  -- a device that no column has wasn't called, as far as calls are told
  abbrev pub ToldNothing : List Column → List (Option D) → List (Option D) → Type 0
  ToldNothing columns old new = (d : ℕ) → ((c : ℕ) → HasDeviceOn columns c d → ⊥)
      → MoreOn (λ more. more ≡ []) (calls_of g old d) (calls_of g new d)

  -- ## A stage

  -- Of each device no other sectors have changed than may, and such calls came; one that no column had wasn't called. A column has died where its device failed, or where it was filling and the array is lost, and no other died. Some of the devices that failed are listed: each was in use, is in use no more, and its column is one less of those that have a device.
  pub record IsStage (may : ℕ → ℕ → Type 0) (calls : ℕ → List Call → Type 0) (lost : Option Loss) (columns after : List Column) (old new : List (Option D)) : Type 0 where
    pub frame : Changes g may old new
    pub told : (d : ℕ) → MoreOn (calls d) (calls_of g old d) (calls_of g new d)
    pub uncalled : ToldNothing columns old new
    pub dies : Dies (DiesIn lost columns old new) columns after
    pub rises : List ℕ
    pub failed : HaveFailed old new rises
    pub had : All (IsInUse columns) rises
    pub gone : All (λ d. (c : ℕ) → HasDeviceOn after c d → ⊥) rises
    pub fewer : device_count after + length rises ≤ device_count columns
