-- Words that proofs go by, for what the specifications spell out.
use Rattle.std.specs.Prelude.{ℕ, List, Bool, ◌≡◌, [], ◌∷◌, ◌++◌, true, ◌⊎◌, Option, Some, None, if◌then◌else◌, false, slice_get, is_some, MatchOption}
use Rattle.eng_cols.specs.declared.column.Column.{Column}
use Rattle.top_rounds.specs.Passes.{IsKeptInUse}
use Rattle.blk_disk.specs.declared.disk.Call.{Call}
use Rattle.blk_disk.specs.Disk.{call_of}
use Rattle.blk_disk.specs.declared.disk.Disk.{Ghosts}
use Rattle.blk_disk.specs.Devices.{sector_of, calls_of}
use Rattle.raid_map.specs.Regions.{Marks as Map, IsBytesOf}
use Rattle.top_acts.specs.Mapped.{is_any_marked}
use Rattle.lay_core.specs.Layout.{Shape}
use Rattle.eng_cols.specs.Cols.{ColumnState, HasDeviceOn, has_device}
use Rattle.top_close.specs.Calls.{MoreOn}
use Rattle.top_acts.specs.Sweeps.{Sweeps}
use Rattle.top_acts.specs.Stages.{AreStaged}
use Rattle.top_close.specs.Stage.{IsGivenUp}
use Rattle.top_acts.specs.Cleared.{AreEndingInTurn, EndsInTurn, EndsMapped}
use Rattle.top_acts.specs.Failed.{StaysBegun}
use Rattle.raid_label.specs.declared.label.Label.{Label}
use Rattle.top_rounds.specs.Labels.{given_up}
use Rattle.eng_cols.specs.declared.spot.Loss.{Loss}

-- sector 0 of a device in use may change, and sector 1 where maps are cleared
abbrev pub MayEnd : (clears : Bool) → List Column → ℕ → ℕ → Type 0
MayEnd clears columns d n = IsKeptInUse clears columns d n

-- the last two wrote the map and settled, and went well
abbrev pub EndCleared : List Call → Type 0
EndCleared calls = (front : List Call) × (calls ≡ front ++ call_of 1 1 512 true ∷ (call_of 2 0 0 true ∷ []))

-- sector 1 of device d holds what it did, or the map without marks by which maps are cleared, where they are
abbrev pub HoldsOr : {D : Type 0} → Ghosts D → Option Map → List (Option D) → List (Option D) → ℕ → Type 0
HoldsOr g clear old new d = (sector_of g new d 1 ≡ sector_of g old d 1) ⊎ ((blank : Map) × (clear ≡ Some blank) × IsBytesOf blank (sector_of g new d 1))

-- a write of sector 1 alone, whether it went well or not
abbrev pub IsMapWrite : Call → Type 0
IsMapWrite call = (good : Bool) × (call ≡ call_of 1 1 512 good)

-- a read of sector 1 alone, whether it went well or not
abbrev pub IsMapRead : Call → Type 0
IsMapRead call = (good : Bool) × (call ≡ call_of 0 1 512 good)

-- by which map without marks maps are cleared, if the union of those that were read has a mark
abbrev pub clear_of : (blank union : Map) → Option Map
clear_of blank union = if is_any_marked union then Some blank else None

-- those that came are such
abbrev pub StagesOn : (first last : List Call → Type 0) (sweep : Sweeps) (y : Shape) (cols : List ColumnState) (d : ℕ) → Option (List Call) → Option (List Call) → Type 0
StagesOn first last sweep y cols d before now = MoreOn (AreStaged first last sweep y cols d) before now

-- such a call that failed, in turn behind one that was a settle or wasn't
abbrev pub FailsEnding : (clears is : Bool) → Call → Type 0
FailsEnding clears is call = (call ≡ call_of 1 0 512 false)
    ⊎ (((clears ≡ true) × (call ≡ call_of 1 1 512 false)) ⊎ ((is ≡ false) × (call ≡ call_of 2 0 0 false)))

-- the calls of each device in use came in turn, none behind one that failed; the last failed exactly where its column died, but for a column that was filling on a lost array
abbrev pub EndingCalls : {D : Type 0} → Ghosts D → (clears : Bool) → Option Loss → (was is : Bool) → List Column → List Column → List (Option D) → List (Option D) → Type 0
EndingCalls g clears lost was is columns after old new = (c d : ℕ) → HasDeviceOn columns c d
    → MoreOn (λ more. EndsInTurn clears (has_device (slice_get after c)) was more is) (calls_of g old d) (calls_of g new d)
    ⊎ (IsGivenUp lost columns c × ((settled : Bool) × MoreOn (λ more. AreEndingInTurn clears was more settled) (calls_of g old d) (calls_of g new d)))

-- where it is told, sector 1 of device d holds this map
abbrev pub HoldsMap : {D : Type 0} → Ghosts D → List (Option D) → Map → ℕ → Type 0
HoldsMap g devices map d = g.tells → IsBytesOf map (sector_of g devices d 1)

-- An array that isn't lost was closed; one that is was left as it was, but for a column that was filling, and stays lost.
abbrev pub ClosesUnless : {D : Type 0} → Ghosts D → Option Loss → Label → Label → List Column → List Column → List (Option D) → List (Option D) → Option Loss → Type 0
ClosesUnless g before label next columns after old new lost = MatchOption before (EndsMapped g None true label next columns after old new lost)
    (λ loss. StaysBegun g label next (given_up columns) after old new × (is_some lost ≡ true))
