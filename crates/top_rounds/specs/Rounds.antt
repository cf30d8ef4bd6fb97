-- Rounds of labels, one behind the other, until one is whole or the array is lost.
use Rattle.std.specs.Prelude.{◌≡◌, ◌⊎◌, ◌≤◌, ◌+◌, ℕ, List, length, Option, Some, None, All, slice_get, false, ◌++◌, [], ◌∷◌, true}
use Rattle.blk_disk.specs.declared.disk.Disk.{Ghosts}
use Rattle.blk_disk.specs.Devices.{sector_of, calls_of, RisesOn, Changes, device_at}
use Rattle.eng_cols.specs.declared.column.Column.{Column}
use Rattle.eng_cols.specs.declared.spot.Loss.{Loss}
use Rattle.eng_cols.specs.Deaths.{Dies, LosesDevice}
use Rattle.raid_label.specs.declared.label.Label.{Label}
use Rattle.raid_label.specs.Bytes.{bytes_of}
use Rattle.top_rounds.specs.Calls.{IsLabelWrite, WritesOn, WritesUntil, WritesWithin, label_writes}
use Rattle.top_rounds.specs.Labels.{given_up, seating_in, seating_of, with_round}
use Rattle.top_rounds.specs.Passes.{HoldsLabel, IsKeptInUse}
use Rattle.top_close.specs.Stage.{DiesIn, HaveFailed, IsGivenUp, IsGivenUpIn, IsInUse, device_count}
use Rattle.top_close.specs.Calls.{MoreOn}
use Rattle.eng_cols.specs.Cols.{HasDeviceOn, has_device}
use Rattle.blk_disk.specs.declared.disk.Call.{Call}
use Rattle.blk_disk.specs.Disk.{call_of}

-- the clean field of the last round: as it was to be, but 0 where the array is lost
abbrev pub clean_in_end : Option Loss → ℕ → ℕ
clean_in_end None clean = clean
clean_in_end (Some loss) clean = 0

-- the columns in the end: of a lost array none is filling any more
abbrev pub in_end : Option Loss → List Column → List Column
in_end None columns = columns
in_end (Some loss) columns = given_up columns

-- the counter of the label is greater by so many rounds, and by at most one more for each of n devices
pub record CountsRounds (rounds : ℕ) (label next : Label) (n : ℕ) : Type 0 where
  pub least : label.counter + rounds ≤ next.counter
  pub most : next.counter ≤ label.counter + rounds + n

module _ {D : Type 0} (g : Ghosts D) where
  -- sector 0 of device d holds the label of column c of a round that was tried: its counter is greater than that of the label before, and less than this one
  pub record IsTriedOn (label : Label) (below : ℕ) (devices : List (Option D)) (c d : ℕ) : Type 0 where
    pub tried : Label
    pub newer : label.counter + 1 ≤ tried.counter
    pub older : tried.counter + 1 ≤ below
    pub label_is : tried ≡ with_round label tried.counter label.clean (seating_in tried)
    pub holds : sector_of g devices d 0 ≡ bytes_of (record tried { column = c })

  -- where it is told, it holds that, or what it held
  abbrev pub HoldsTried : Label → ℕ → List (Option D) → List (Option D) → ℕ → ℕ → Type 0
  HoldsTried label below old new c d = g.tells → (sector_of g new d 0 ≡ sector_of g old d 0) ⊎ IsTriedOn label below new c d

  -- Rounds were tried, and each ended by a failed write: the counter is greater by one for each, and the devices that failed were in use and are no column's now. A device that was in use had no call behind one that failed; one that is still has what it had, or the label of one of the rounds. Each had at most one call a round: as many as the counter is greater by.
  pub record HaveTried (label next : Label) (columns mid : List Column) (old new : List (Option D)) : Type 0 where
    pub rises : List ℕ
    pub counter : next.counter ≡ label.counter + length rises
    pub failed : HaveFailed g old new rises
    pub had : All (IsInUse columns) rises
    pub gone : All (λ d. (c : ℕ) → HasDeviceOn mid c d → ⊥) rises
    pub fewer : device_count mid + length rises ≤ device_count columns
    pub frame : Changes g (IsKeptInUse false columns) old new
    pub others : (d : ℕ) → ((c : ℕ) → HasDeviceOn columns c d → ⊥) → device_at new d ≡ device_at old d
    pub dies : Dies (LosesDevice g columns old new) columns mid
    pub told : (d : ℕ) → WritesOn (calls_of g old d) (calls_of g new d)
    pub times : (d : ℕ) → WritesWithin label.counter next.counter (calls_of g old d) (calls_of g new d)
    pub each : (c d : ℕ) → HasDeviceOn columns c d → WritesUntil (has_device (slice_get mid c)) (calls_of g old d) (calls_of g new d)
    pub holds : (c d : ℕ) → HasDeviceOn mid c d → HoldsTried label (next.counter + 1) old new c d

  -- Rounds were written. The counter is greater by at least 1, and by at most 1 more for each device that was in use, whose count of faults rose, and that is no column's in the end. The last round began with the columns `mid`, and the device of each column in the end has its label. The device of each column that had one had some call; of these all went well but the last, which did exactly where the column has it in the end; that of a column that was filling in a lost array isn't called in the last round: there all may have gone well, or there were none. There is at most one a round, as many as the counter is greater by, so that where that is 1 each device in use in the end got its label once. The device of a column that was filling in a lost array, if its count of faults didn't rise, has what it had, or the label of a round before the last.
  pub record AreRounds (lost : Option Loss) (label next : Label) (columns mid after : List Column) (old new : List (Option D)) : Type 0 where
    pub rises : List ℕ
    pub failed : HaveFailed g old new rises
    pub had : All (IsInUse columns) rises
    pub gone : All (λ d. (c : ℕ) → HasDeviceOn after c d → ⊥) rises
    pub fewer : device_count after + length rises ≤ device_count columns
    pub least : label.counter + 1 ≤ next.counter
    pub most : next.counter ≤ label.counter + 1 + length rises
    pub seating : seating_in next ≡ seating_of mid
    pub held : (c d : ℕ) → HasDeviceOn after c d → HoldsLabel g new next c d
    pub frame : Changes g (IsKeptInUse false columns) old new
    pub others : (d : ℕ) → ((c : ℕ) → HasDeviceOn columns c d → ⊥) → device_at new d ≡ device_at old d
    pub began : Dies (DiesIn g lost columns old new) columns mid
    pub ended : Dies (LosesDevice g columns old new) mid after
    pub given_up : IsGivenUpIn lost after
    pub told : (d : ℕ) → MoreOn (All IsLabelWrite) (calls_of g old d) (calls_of g new d)
    pub times : (d : ℕ) → MoreOn (λ more. label.counter + label_writes more ≤ next.counter) (calls_of g old d) (calls_of g new d)
    pub each : (c d : ℕ) → HasDeviceOn columns c d
        → MoreOn (λ more. (front : List Call) × (more ≡ front ++ call_of 1 0 512 (has_device (slice_get after c)) ∷ []) × All (λ call. call ≡ call_of 1 0 512 true) front) (calls_of g old d) (calls_of g new d)
        ⊎ (IsGivenUp lost columns c × MoreOn (All (λ call. call ≡ call_of 1 0 512 true)) (calls_of g old d) (calls_of g new d))
    pub given : (c d : ℕ) → IsGivenUp lost columns c → HasDeviceOn columns c d → (RisesOn g old new d → ⊥) → HoldsTried label next.counter old new c d

  -- the last round of an array that isn't lost began with the columns of the end; that of a lost one with some that it may have left dead
  abbrev pub HaveRounds : Option Loss → Label → Label → List Column → List Column → List (Option D) → List (Option D) → Type 0
  HaveRounds None label next columns after old new = AreRounds None label next columns after after old new
  HaveRounds (Some loss) label next columns after old new = (mid : List Column) × AreRounds (Some loss) label next columns mid after old new
