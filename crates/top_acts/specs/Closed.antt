-- The labels of an array's end.
use Rattle.std.specs.Prelude.{◌≡◌, ◌⊎◌, ◌≤◌, ◌+◌, ℕ, suc, List, length, Bool, true, false, Option, None, All, slice_get, not, is_some}
use Rattle.blk_disk.specs.declared.disk.Disk.{Ghosts}
use Rattle.blk_disk.specs.Devices.{RisesOn, calls_of, device_at}
use Rattle.eng_cols.specs.declared.column.Column.{Column}
use Rattle.eng_cols.specs.declared.spot.Loss.{Loss}
use Rattle.raid_label.specs.declared.label.Label.{Label}
use Rattle.top_close.specs.Calls.{EndsSettled}
use Rattle.top_close.specs.Settled.{AreSettled}
use Rattle.top_rounds.specs.Calls.{WritesSome, WritesWithin}
use Rattle.top_rounds.specs.Labels.{seating_in, seating_of, with_round}
use Rattle.top_rounds.specs.Passes.{HoldsLabel, IsKeptInUse}
use Rattle.top_close.specs.Stage.{IsGivenUp, IsGivenUpIn, device_count, IsStage}
use Rattle.top_rounds.specs.Rounds.{HoldsTried, clean_in_end, CountsRounds}
use Rattle.top_acts.specs.Seats.{HasSeats}
use Rattle.top_acts.specs.Stages.{InTurnOn, IsClosing}
use Rattle.eng_cols.specs.Cols.{HasDeviceOn, has_device}

-- where the array isn't lost the last call of a device in use is a settle, else a label write
abbrev pub settled_in_end : Option Loss → Bool
settled_in_end lost = not (is_some lost)

module _ {D : Type 0} (g : Ghosts D) where
  -- The calls of each device in use came in turn, none behind one that failed; the last failed exactly where its column died. In a lost array the device of a column that was filling isn't called in the last round: all its calls may have gone well, though the column is dead.
  abbrev pub CallInTurn : Option Loss → (was is : Bool) → List Column → List Column → List (Option D) → List (Option D) → Type 0
  CallInTurn lost was is columns after old new = (c d : ℕ) → HasDeviceOn columns c d → InTurnOn (has_device (slice_get after c)) was (calls_of g old d) (calls_of g new d) is
      ⊎ (IsGivenUp lost columns c × ((settled : Bool) × InTurnOn true was (calls_of g old d) (calls_of g new d) settled))

  -- Labels were written in rounds: so many, and at most one more for each of the devices that are listed. No sector has changed but that of the label on devices that were in use; the calls are label writes and settles alone, and no other device was called. Each was written at most one label a round: as many as the counter is greater by.
  pub record AreCounted (lost : Option Loss) (rounds : ℕ) (label next : Label) (columns after : List Column) (old new : List (Option D)) : Type 0 where
    pub stage : IsStage g (IsKeptInUse false columns) (λ d. All IsClosing) lost columns after old new
    pub counter : CountsRounds rounds label next (length stage.rises)
    pub others : (d : ℕ) → ((c : ℕ) → HasDeviceOn columns c d → ⊥) → device_at new d ≡ device_at old d
    pub times : (d : ℕ) → WritesWithin label.counter next.counter (calls_of g old d) (calls_of g new d)

  -- One round is named. Each device in use in the end was written its label, once where the counter is greater by one, and has it; it isn't clean where the array is lost, and says what the columns of the last round were, which are those in the end unless the array is lost; of a lost one no column is filling any more, and the device of one that was, if its count of faults didn't rise, has what it had, or the label of a round before the last. Each device in use was called in turn: label writes, and settles none of which comes right behind another, none behind a call that failed; `was` says whether its call before was a settle. Its last is a settle, or a label write where the array is lost.
  pub record ClosesLabelled (was : Bool) (label next : Label) (columns after : List Column) (old new : List (Option D)) (lost : Option Loss) : Type 0 where
    pub counted : AreCounted lost 1 label next columns after old new
    pub label_is : next ≡ with_round label next.counter (clean_in_end lost label.clean) (seating_in next)
    pub seated : HasSeats g lost next columns after old new
    pub seating : lost ≡ None → seating_in next ≡ seating_of after
    pub given_up : IsGivenUpIn lost after
    pub held : (c d : ℕ) → HasDeviceOn after c d → HoldsLabel g new next c d
    pub labelled : (c d : ℕ) → HasDeviceOn after c d → WritesSome (calls_of g old d) (calls_of g new d)
    pub settled : lost ≡ None → (c d : ℕ) → HasDeviceOn after c d → EndsSettled (calls_of g new d)
    pub given : (c d : ℕ) → IsGivenUp lost columns c → HasDeviceOn columns c d → (RisesOn g old new d → ⊥) → HoldsTried g label next.counter old new c d
    pub each : CallInTurn lost was (settled_in_end lost) columns after old new

  -- First each device in use was settled, once, before any label was written; a column died whose device failed. The array was then closed with the columns and devices that this left.
  pub record ClosesSettled (label next : Label) (columns after : List Column) (old new : List (Option D)) (lost : Option Loss) : Type 0 where
    pub mid : List Column
    pub dev : List (Option D)
    pub settles : AreSettled g (length columns) columns mid old dev
    pub closes : ClosesLabelled true label next mid after dev new lost

  -- A device failed as it was settled, so that no label of before is the last. Each that is in use still has one of those.
  pub record IsBroken (label next : Label) (columns after : List Column) (old new : List (Option D)) : Type 0 where
    pub counted : AreCounted None 0 label next columns after old new
    pub label_is : next ≡ with_round label next.counter label.clean (seating_in next)
    pub fewer : suc (device_count after) ≤ device_count columns
    pub each : CallInTurn None true true columns after old new
    pub holds : (c d : ℕ) → HasDeviceOn after c d → HoldsTried g label (next.counter + 1) old new c d

  -- the array was closed, or a device failed as it was settled
  abbrev pub TriesToClose : Label → Label → List Column → List Column → List (Option D) → List (Option D) → Option Loss → Bool → Type 0
  TriesToClose label next columns after old new lost true = ClosesLabelled true label next columns after old new lost
  TriesToClose label next columns after old new lost false = IsBroken label next columns after old new
