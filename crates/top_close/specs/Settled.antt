-- The settling of the devices in use, column by column.
use Rattle.std.specs.Prelude.{◌≡◌, ◌≢◌, ◌<◌, ◌≤◌, ℕ, List, Bool, false, Option, IsSome, slice_get, slice_set, if◌then◌else◌, All}
use Rattle.blk_disk.specs.declared.disk.Disk.{Ghosts}
use Rattle.blk_disk.specs.Disk.{Tells, call_of}
use Rattle.blk_disk.specs.Devices.{device_at, calls_of, RisesOn, Changes}
use Rattle.eng_cols.specs.declared.column.Column.{Column}
use Rattle.eng_cols.specs.declared.column.Column.TheVariants as column
use Rattle.eng_cols.specs.Cols.{HasDeviceOn, has_device}
use Rattle.eng_cols.specs.Deaths.{Dies, LosesDevice}
use Rattle.top_close.specs.Calls.{MoreOn, IsSettle}

-- The device of each column that has one is there, and is no other's.
pub record HaveDevices {D : Type 0} (columns : List Column) (devices : List (Option D)) : Type 0 where
  pub there : (c d : ℕ) → HasDeviceOn columns c d → IsSome (device_at devices d)
  pub apart : (c k d : ℕ) → HasDeviceOn columns c d → HasDeviceOn columns k d → c ≡ k

module _ {D : Type 0} (g : Ghosts D) where
  -- Device d was settled, well or not, and no other was called.
  pub record IsSettling (d : ℕ) (old new : List (Option D)) (good : Bool) : Type 0 where
    pub frame : Changes g (λ _ _. ⊥) old new
    pub cause : good ≡ false → RisesOn g old new d
    pub told : Tells (calls_of g old d) (calls_of g new d) (call_of 2 0 0 good)
    pub others : (k : ℕ) → k ≢ d → device_at new k ≡ device_at old k

  -- Column c, which has a device, was settled, and is dead where that failed.
  pub record SettlesColumn (c : ℕ) (columns after : List Column) (old new : List (Option D)) : Type 0 where
    pub device : ℕ
    pub good : Bool
    pub live : HasDeviceOn columns c device
    pub settling : IsSettling device old new good
    pub after_is : after ≡ (if good then columns else slice_set columns c column.Dead)

  -- The first n columns were settled. No sector has changed; a column has died where its device failed, and no other died; the device of each of the first n that has one had one call more, to settle, and the column has it still exactly where that went well; no other device was called.
  pub record AreSettled (n : ℕ) (columns after : List Column) (old new : List (Option D)) : Type 0 where
    pub frame : Changes g (λ _ _. ⊥) old new
    pub dies : Dies (LosesDevice g columns old new) columns after
    pub once : (c d : ℕ) → c < n → HasDeviceOn columns c d → Tells (calls_of g old d) (calls_of g new d) (call_of 2 0 0 (has_device (slice_get after c)))
    pub others : (d : ℕ) → ((c : ℕ) → c < n → HasDeviceOn columns c d → ⊥) → device_at new d ≡ device_at old d
    pub left : (c : ℕ) → n ≤ c → slice_get after c ≡ slice_get columns c
    pub told : (d : ℕ) → MoreOn (All IsSettle) (calls_of g old d) (calls_of g new d)
