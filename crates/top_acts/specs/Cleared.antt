-- The end of an array whose maps are cleared behind its last labels.
use Rattle.std.specs.Prelude.{◌≡◌, ◌⊎◌, ◌≤◌, ℕ, zero, suc, List, [], ◌∷◌, ◌++◌, All, length, Bool, true, false, Option, Some, None, is_some, slice_get, not, ◌+◌, MatchOption}
use Rattle.blk_disk.specs.declared.disk.Call.{Call}
use Rattle.blk_disk.specs.declared.disk.Disk.{Ghosts}
use Rattle.blk_disk.specs.Disk.{call_of}
use Rattle.blk_disk.specs.Devices.{RisesOn, calls_of, sector_of, device_at}
use Rattle.eng_cols.specs.declared.column.Column.{Column}
use Rattle.eng_cols.specs.declared.spot.Loss.{Loss}
use Rattle.eng_cols.specs.Stripes.{states_of}
use Rattle.lay_core.specs.Layout.{Shape}
use Rattle.raid_label.specs.declared.label.Label.{Label}
use Rattle.raid_map.specs.Regions.{Marks as Map, IsBytesOf}
use Rattle.top_close.specs.Calls.{EndsSettled, MoreOn, IsSettle}
use Rattle.top_close.specs.Ended.{IsLossBy}
use Rattle.top_close.specs.Settled.{AreSettled}
use Rattle.top_close.specs.Stage.{IsGivenUp, IsGivenUpIn, IsStage, device_count}
use Rattle.top_rounds.specs.Calls.{IsLabelWrite, label_writes}
use Rattle.top_rounds.specs.Labels.{seating_in, seating_of, with_round}
use Rattle.top_rounds.specs.Passes.{HoldsLabel, IsKeptInUse}
use Rattle.top_rounds.specs.Rounds.{CountsRounds, HoldsTried, clean_in_end}
use Rattle.top_acts.specs.Seats.{HasSeats}
use Rattle.top_acts.specs.Marking.{MarksAll}
use Rattle.eng_cols.specs.Cols.{HasDeviceOn, has_device}

-- Whether maps are cleared at the end, and by which map without marks.

-- a write of a label, or a settle; or a write of sector 1 alone, whether it went well or not, where maps are cleared
abbrev pub IsEndingCall : (clears : Bool) → Call → Type 0
IsEndingCall false call = IsLabelWrite call ⊎ IsSettle call
IsEndingCall true call = (IsLabelWrite call ⊎ IsSettle call) ⊎ ((good : Bool) × (call ≡ call_of 1 1 512 good))

-- Such calls that all went well, no settle right behind another: `was` and `is` say whether the call before them, and the last of them, is a settle.
abbrev pub AreEndingInTurn : (clears was : Bool) → List Call → (is : Bool) → Type 0
AreEndingInTurn clears was [] is = was ≡ is
AreEndingInTurn clears was (c ∷ cs) is = ((c ≡ call_of 1 0 512 true) × AreEndingInTurn clears false cs is)
    ⊎ (((clears ≡ true) × (c ≡ call_of 1 1 512 true) × AreEndingInTurn clears false cs is)
    ⊎ ((was ≡ false) × (c ≡ call_of 2 0 0 true) × AreEndingInTurn clears true cs is))

-- of a device that stays in use all went well, and of another the last failed
abbrev pub EndsInTurn : (clears stays was : Bool) → List Call → (is : Bool) → Type 0
EndsInTurn clears true was calls is = AreEndingInTurn clears was calls is
EndsInTurn clears false was calls is = (front : List Call) × (last : Call) × (before : Bool)
    × (calls ≡ front ++ last ∷ []) × AreEndingInTurn clears was front before
    × ((last ≡ call_of 1 0 512 false) ⊎ (((clears ≡ true) × (last ≡ call_of 1 1 512 false)) ⊎ ((before ≡ false) × (last ≡ call_of 2 0 0 false))))

module _ {D : Type 0} (g : Ghosts D) where
  -- The array was closed, as one is whose maps aren't cleared; and where maps are cleared, and the array isn't lost, each device in use in the end holds the map that is given for that, and its last two calls wrote that and settled; one whose count of faults didn't rise holds that in its sector 1, or what it held. A device that fails as its map is cleared makes its column dead, and begins rounds of labels anew, and those are followed by clears again. One round is named, and each device was written at most one label a round: as many as the counter is greater by, and one at least where it is in use in the end. The calls of each that was in use came in turn, none behind one that failed; the last failed exactly where its column died, but for a column that was filling on a lost array. Of a lost array no map is cleared behind the loss.
  pub record EndsMapped (clear : Option Map) (was : Bool) (label next : Label) (columns after : List Column) (old new : List (Option D)) (lost : Option Loss) : Type 0 where
    pub stage : IsStage g (IsKeptInUse (is_some clear) columns) (λ d. All (IsEndingCall (is_some clear))) lost columns after old new
    pub counter : CountsRounds 1 label next (length stage.rises)
    pub others : (d : ℕ) → ((c : ℕ) → HasDeviceOn columns c d → ⊥) → device_at new d ≡ device_at old d
    pub times : (d : ℕ) → MoreOn (λ more. label.counter + label_writes more ≤ next.counter) (calls_of g old d) (calls_of g new d)
    pub label_is : next ≡ with_round label next.counter (clean_in_end lost label.clean) (seating_in next)
    pub seated : HasSeats g lost next columns after old new
    pub seating : lost ≡ None → seating_in next ≡ seating_of after
    pub given_up : IsGivenUpIn lost after
    pub held : (c d : ℕ) → HasDeviceOn after c d → HoldsLabel g new next c d
    pub labelled : (c d : ℕ) → HasDeviceOn after c d
        → MoreOn (λ more. 1 ≤ label_writes more) (calls_of g old d) (calls_of g new d)
    pub settled : lost ≡ None → (c d : ℕ) → HasDeviceOn after c d → EndsSettled (calls_of g new d)
    pub given : (c d : ℕ) → IsGivenUp lost columns c → HasDeviceOn columns c d → (RisesOn g old new d → ⊥) → HoldsTried g label next.counter old new c d
    pub each : (c d : ℕ) → HasDeviceOn columns c d
        → MoreOn (λ more. EndsInTurn (is_some clear) (has_device (slice_get after c)) was more (not (is_some lost))) (calls_of g old d) (calls_of g new d)
        ⊎ (IsGivenUp lost columns c × ((settled : Bool) × MoreOn (λ more. AreEndingInTurn (is_some clear) was more settled) (calls_of g old d) (calls_of g new d)))
    pub maps : g.tells → (d : ℕ) → (RisesOn g old new d → ⊥)
        → (sector_of g new d 1 ≡ sector_of g old d 1) ⊎ ((blank : Map) × (clear ≡ Some blank) × IsBytesOf blank (sector_of g new d 1))
    pub cleared : (blank : Map) → clear ≡ Some blank → lost ≡ None → (c d : ℕ) → HasDeviceOn after c d → g.tells → IsBytesOf blank (sector_of g new d 1)
    pub called : is_some clear ≡ true → lost ≡ None → (c d : ℕ) → HasDeviceOn after c d
        → MoreOn (λ more. (front : List Call) × (more ≡ front ++ call_of 1 1 512 true ∷ (call_of 2 0 0 true ∷ []))) (calls_of g old d) (calls_of g new d)

  -- First each device in use was settled, once, before any label was written; a column died whose device failed. Then it ended so with the columns and devices that this left.
  pub record EndsMappedSettled (clear : Option Map) (label next : Label) (columns after : List Column) (old new : List (Option D)) (lost : Option Loss) : Type 0 where
    pub mid : List Column
    pub dev : List (Option D)
    pub settles : AreSettled g (length columns) columns mid old dev
    pub ends : EndsMapped clear true label next mid after dev new lost

  -- ## Step by step

  -- A try to clear the maps: of an array that is lost nothing is done; else each device in use was marked with the map that is given for that, and where one failed the array was closed anew.
  abbrev pub TriesToClear : Map → Label → Label → List Column → List Column → List (Option D) → List (Option D) → (before lost : Option Loss) → Bool → Type 0
  TriesToClear blank label next columns after old new (Some loss) lost good = (good ≡ true) × (next ≡ label) × (after ≡ columns) × (new ≡ old) × (lost ≡ Some loss)
  TriesToClear blank label next columns after old new None lost true = (next ≡ label) × MarksAll g blank columns after old new × (after ≡ columns) × (lost ≡ None)
  TriesToClear blank label next columns after old new None lost false = (mid : List Column) × (dev : List (Option D)) × MarksAll g blank columns mid old dev
      × (suc (device_count mid) ≤ device_count columns) × EndsMapped None true label next mid after dev new lost

  -- So many tries to clear the maps were broken off, each by a device that failed, and what the array is lost by behind each is told by the columns that it left; then came the last.
  abbrev pub ClearsIn : ℕ → Shape → Map → Label → Label → List Column → List Column → List (Option D) → List (Option D) → (before lost : Option Loss) → Type 0
  ClearsIn zero y blank label next columns after old new before lost = TriesToClear blank label next columns after old new before lost true
  ClearsIn (suc n) y blank label next columns after old new before lost = (mid : List Column) × (dev : List (Option D)) × (first : Label) × (between : Option Loss)
      × TriesToClear blank label first columns mid old dev before between false × IsLossBy y None (states_of y mid) between × ClearsIn n y blank first next mid after dev new between lost

  -- The array was closed, as one is whose maps aren't cleared, which left the columns `mid`, the devices `dev`, the label `first` and the loss `behind`: by that it stays lost that was lost before, by `was`, and else it is lost by those columns, if it is. Then the maps were cleared, if they are to be: of an array that is lost by then none is.
  pub record EndsInSteps (clear : Option Map) (y : Shape) (was : Option Loss) (label next : Label) (columns after : List Column) (old new : List (Option D)) (lost : Option Loss) : Type 0 where
    pub mid : List Column
    pub dev : List (Option D)
    pub first : Label
    pub behind : Option Loss
    pub closes : EndsMapped None false label first columns mid old dev behind
    pub behind_is : IsLossBy y was (states_of y mid) behind
    pub clears : MatchOption clear ((next ≡ first) × (after ≡ mid) × (new ≡ dev) × (lost ≡ behind))
        (λ blank. (tries : ℕ) × ClearsIn tries y blank first next mid after dev new behind lost)
