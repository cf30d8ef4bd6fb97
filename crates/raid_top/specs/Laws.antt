-- What follows from how a call answers: what is refused changes nothing, and what is right is answered; which devices count as unread for that; why a column is dead as an array is opened, and in the end; what one lacks that is refused as lost; and what clients that are drawn, and rebuilds, come to.
use Rattle.std.specs.Prelude.{◌≡◌, ◌⊎◌, ◌==◌, ℕ, Bool, true, List, [], ◌∷◌, ◌++◌, Option, Some, Ok, slice_get}
use Rattle.std.specs.List.{list_any}
use Rattle.blk_disk.specs.Devices.{StaysIf, calls_of}
use Rattle.blk_disk.specs.declared.disk.Call.{Call}
use Rattle.blk_disk.specs.declared.disk.Disk.{Ghosts}
use Rattle.eng_cols.specs.declared.spot.Loss.{Loss}
use Rattle.raid_text.specs.Text.{Text}
use Rattle.top_bay.specs.Asked.{names_for}
use Rattle.top_close.specs.Losses.{LossLacksUnits}
use Rattle.top_duty.specs.Duty.{Admitted, OnArray as OnAdmitted, asked_of, duty_in, judged_states, layout_of}
use Rattle.top_duty.specs.Opening.{sizes_in}
use Rattle.top_duty.specs.Taken.{WasRead}
use Rattle.top_fetch.specs.Told.{Told}
use Rattle.top_open.specs.declared.fronts.Front.{Front}
use Rattle.top_open.specs.declared.fronts.Front.TheVariants.{Unread}
use Rattle.top_open.specs.Opening.{Opened}
use Rattle.top_status.specs.Refusals.{Refused}
use Rattle.top_status.specs.Status.{exit_number, status_of_loss}
use Rattle.top_status.specs.declared.status.Status.{Status}
use Rattle.top_status.specs.declared.status.Status.TheVariants as status
use Rattle.top_words.specs.Asked.{Command, Sweep}
use Rattle.top_words.specs.Judged.{OnArray, invocation_of}
use Rattle.raid_top.specs.Acted.{Acted, MayRead}
use Rattle.raid_top.specs.Calls.{Refuses, call_status}
use Rattle.raid_top.specs.Ends.{Answers, IsDone, IsRight}
use Rattle.raid_top.specs.Losses.{AreCaused}
use Rattle.raid_top.specs.Opened.{DeadHaveCauses, IsOpenedFor}
use Rattle.raid_top.specs.Outcome.{Outcome}
use Rattle.raid_top.specs.Runs.{IfRan, IsRunInTurn, IsRunWorth}

-- the exit numbers that only a call has that was refused
abbrev pub refusing_numbers : List ℕ
refusing_numbers = 1 ∷ 2 ∷ 3 ∷ 4 ∷ 5 ∷ 6 ∷ 9 ∷ 10 ∷ 12 ∷ 13 ∷ 14 ∷ 15 ∷ 70 ∷ []

abbrev pub is_refusing : Status → Bool
is_refusing s = list_any (λ n. n == exit_number s) refusing_numbers

-- The command is refused as lost: by what was read of its devices its array is opened, and by the columns as the action makes them the stripe that the status names lacks a unit on both of its columns.
pub record LacksUnits {D : Type 0} (g : Ghosts D) (b : Told D) (command : Command) (r : Refused) : Type 0 where
  pub fronts : List Front
  pub array : Admitted
  pub loss : Loss
  pub read : WasRead g b array.asked fronts
  pub opened : duty_in g.size b command fronts ≡ Ok (OnAdmitted array)
  pub told : r.status ≡ status_of_loss (Some loss)
  pub lacks : LossLacksUnits (layout_of array) (judged_states array) loss

module _ {D : Type 0} (g : Ghosts D) (b : Told D) (words : List Text) (sink_tells sink_rose : Type 0) (answer : Status) (old new : List ℕ) where
  abbrev pub HasAnswered : Type 0
  HasAnswered = Answers g b words sink_tells sink_rose answer old new

  -- each component is back under its name, as large as it was, and each of its sectors holds what it held
  abbrev pub NothingChanged : Type 0
  NothingChanged = (n : Text) → StaysIf g (λ _. ⊥) (b.home n) (b.after n)

  -- Nothing has changed after a call with one of these numbers; nor after one with 7 in its place, of
  -- which the output was cut.
  abbrev pub RefusedChangesNothing : Type 0
  RefusedChangesNothing = b.tells → (a : HasAnswered)
      → (is_refusing answer ≡ true) ⊎ ((answer ≡ status.SinkFault) × (is_refusing (call_status a.outcome) ≡ true))
      → NothingChanged

  -- Where words, texts, names, sizes and columns are right, and neither the bay's nor the sink's count
  -- rose, what the words ask for is done and ends well, or memory was wanted.
  abbrev pub RightIsAnswered : Type 0
  RightIsAnswered = b.tells → HasAnswered → IsRight g b words → (b.rose → ⊥) → (sink_rose → ⊥)
      → IsDone g b words sink_tells answer old new

  -- On both columns of the loss for which an action is refused its stripe lacks a unit.
  abbrev pub RefusedLossLacksUnits : Type 0
  RefusedLossLacksUnits = b.tells → (a : HasAnswered) (command : Command) (r : Refused) (loss : Loss)
      → invocation_of words ≡ Ok (OnArray command) → a.outcome ≡ Refuses r → r.status ≡ status_of_loss (Some loss)
      → LacksUnits g b command r

-- Of an array that was opened for an action each column that is dead is so for a cause that was read.
abbrev pub DeadAsOpened : {D : Type 0} → Ghosts D → Told D → Type 0
DeadAsOpened g b = b.tells → (command : Command) (o : Outcome) (h : Acted g b command o) (opened : Opened) → IsOpenedFor h.duty opened
    → DeadHaveCauses (asked_of h.duty) (sizes_in g.size b.home (names_for (asked_of h.duty))) h.fronts opened

-- However it came to it: each column is kept as what it is if none dies, or is dead for a cause, and both columns of a loss are dead, or spread over a dead one.
abbrev pub DeathsAreCaused : {D : Type 0} → Ghosts D → Told D → Type 0
DeathsAreCaused g b = (command : Command) (o : Outcome) (h : Acted g b command o) → AreCaused g h.duty h.old h.back o

-- Clients that were drawn leave, and are replied, what they would one after another.
abbrev pub DrawnComeInTurn : {D : Type 0} → Ghosts D → Told D → Type 0
DrawnComeInTurn g b = (command : Command) (o : Outcome) (h : Acted g b command o) (seed clients ops workers : ℕ) (mapped : Bool)
    → command.action ≡ Sweep seed clients ops workers mapped → IfRan g (IsRunInTurn g) h.duty h.fronts h.old h.back o h.does

-- What a rebuild that is done is worth.
abbrev pub RebuiltIsWorth : {D : Type 0} → Ghosts D → Told D → Type 0
RebuiltIsWorth g b = (command : Command) (o : Outcome) (h : Acted g b command o) → IfRan g (IsRunWorth g) h.duty h.fronts h.old h.back o h.does

-- A device that tells its calls, of which the first behind those of before went well, doesn't count as
-- unread, whenever its count of faults rose then.
abbrev pub FailsLateIsRead : {D : Type 0} → Ghosts D → (taken back : List (Option D)) → List Front → Type 0
FailsLateIsRead g taken back fronts = MayRead g true taken back fronts
    → (d : ℕ) (before later : List Call) (first : Call)
    → calls_of g taken d ≡ Some before → calls_of g back d ≡ Some (before ++ first ∷ later) → first.good ≡ true
    → slice_get fronts d ≡ Some Unread → ⊥
