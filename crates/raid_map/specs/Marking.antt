-- What it is that the devices in use are marked.
use Rattle.std.specs.Prelude.{◌≡◌, ◌≢◌, ◌<◌, ◌≤◌, ◌⊎◌, ℕ, List, [], ◌∷◌, ◌++◌, Bool, true, false, Option, Some, slice_get, slice_set, if◌then◌else◌}
use Rattle.blk_disk.specs.declared.disk.Call.{Call}
use Rattle.blk_disk.specs.declared.disk.Disk.{Ghosts}
use Rattle.blk_disk.specs.Disk.{call_of, ToldOn}
use Rattle.blk_disk.specs.Devices.{device_at, size_of, calls_of, RisesOn, Changes}
use Rattle.blk_disk.specs.Stops.{Left}
use Rattle.eng_cols.specs.declared.column.Column.{Column}
use Rattle.eng_cols.specs.declared.column.Column.TheVariants as column
use Rattle.eng_cols.specs.Cols.{HasDeviceOn, has_device}
use Rattle.eng_cols.specs.Deaths.{Dies, LosesDevice}

-- sector 1 of a device in use
abbrev pub IsMapSector : List Column → ℕ → ℕ → Type 0
IsMapSector columns d n = ((c : ℕ) × HasDeviceOn columns c d) × (n ≡ 1)

-- the calls that mark a device: its sector 1 is written and it is settled, both well, or one of the two fails
abbrev pub MarkCalls : Bool → List Call → Type 0
MarkCalls true calls = calls ≡ call_of 1 1 512 true ∷ call_of 2 0 0 true ∷ []
MarkCalls false calls = (calls ≡ call_of 1 1 512 false ∷ []) ⊎ (calls ≡ call_of 1 1 512 true ∷ call_of 2 0 0 false ∷ [])

-- where the calls are told now, they were told before and have these behind them
abbrev pub MarksOn : Option (List Call) → Option (List Call) → Bool → Type 0
MarksOn before now good = ToldOn (λ (was : List Call) (is : List Call). (more : List Call) × MarkCalls good more × (is ≡ was ++ more)) before now

module _ {D : Type 0} (g : Ghosts D) where
  -- The device of each column is there with two sectors, and is no other's.
  pub record CanBeMarked (columns : List Column) (devices : List (Option D)) : Type 0 where
    pub sized : (c d : ℕ) → HasDeviceOn columns c d → 2 ≤ size_of g devices d
    pub apart : (c k d : ℕ) → HasDeviceOn columns c d → HasDeviceOn columns k d → c ≡ k

  -- the device holds these bytes in sector 1, and a stop leaves what it holds and nothing else
  pub record IsSafeOn (x : D) (bytes : List ℕ) : Type 0 where
    pub held : g.tells → g.sector x 1 ≡ bytes
    pub left : (l : Left) → g.left x ≡ Some l → (l.settled ≡ g.sector x) × (l.logged ≡ [])

  -- Device d was marked, well or not, and no other was called.
  pub record IsMarking (d : ℕ) (bytes : List ℕ) (old new : List (Option D)) (good : Bool) : Type 0 where
    pub frame : Changes g (λ k n. (k ≡ d) × (n ≡ 1)) old new
    pub cause : good ≡ false → RisesOn g old new d
    pub safe : good ≡ true → (x : D) → device_at new d ≡ Some x → IsSafeOn x bytes
    pub told : MarksOn (calls_of g old d) (calls_of g new d) good
    pub others : (k : ℕ) → k ≢ d → device_at new k ≡ device_at old k

  -- Column c was marked, and is dead where that failed.
  pub record MarksColumn (c : ℕ) (bytes : List ℕ) (columns after : List Column) (old new : List (Option D)) : Type 0 where
    pub device : ℕ
    pub good : Bool
    pub on : HasDeviceOn columns c device
    pub marking : IsMarking device bytes old new good
    pub after_is : after ≡ (if good then columns else slice_set columns c column.Dead)

  -- The first n columns were marked. No sector has changed but sector 1 of devices in use; a column has died where its device failed, and no other died; each of the first n that has its device still is safe; the device of each of them that has one had the calls of a mark, which went well exactly where the column has it still; no other device was called.
  pub record AreMarked (n : ℕ) (bytes : List ℕ) (columns after : List Column) (old new : List (Option D)) : Type 0 where
    pub frame : Changes g (λ d n. ((c : ℕ) × HasDeviceOn columns c d) × (n ≡ 1)) old new
    pub dies : Dies (LosesDevice g columns old new) columns after
    pub safe : (c d : ℕ) (x : D) → c < n → HasDeviceOn after c d → device_at new d ≡ Some x → IsSafeOn x bytes
    pub once : (c d : ℕ) → c < n → HasDeviceOn columns c d
        → ToldOn (λ (was : List Call) (is : List Call). (more : List Call) × MarkCalls (has_device (slice_get after c)) more × (is ≡ was ++ more)) (calls_of g old d) (calls_of g new d)
    pub others : (d : ℕ) → ((c : ℕ) → c < n → HasDeviceOn columns c d → ⊥) → device_at new d ≡ device_at old d
    pub kept : (c : ℕ) → n ≤ c → slice_get after c ≡ slice_get columns c
    pub told : (d : ℕ)
        → ToldOn (λ (was : List Call) (is : List Call). (more : List Call) × ((more ≡ []) ⊎ ((good : Bool) × MarkCalls good more)) × (is ≡ was ++ more)) (calls_of g old d) (calls_of g new d)
