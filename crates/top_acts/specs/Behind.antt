-- A sweep behind an opening round, or behind maps on each device in use.
use Rattle.std.specs.Prelude.{◌≡◌, ◌⊎◌, ◌≤◌, ℕ, List, [], All, Option, None, MatchOption, length}
use Rattle.blk_disk.specs.declared.disk.Call.{Call}
use Rattle.blk_disk.specs.declared.disk.Disk.{Ghosts}
use Rattle.blk_disk.specs.Devices.{Changes}
use Rattle.lay_core.specs.Layout.{Shape}
use Rattle.eng_cols.specs.declared.column.Column.{Column}
use Rattle.eng_cols.specs.declared.spot.Loss.{Loss}
use Rattle.raid_label.specs.declared.label.Label.{Label}
use Rattle.eng_cols.specs.Stripes.{states_of}
use Rattle.top_rounds.specs.Labels.{seating_in, with_round}
use Rattle.top_rounds.specs.Passes.{HoldsLabel}
use Rattle.top_rounds.specs.Calls.{IsLabelWrite}
use Rattle.top_close.specs.Stage.{IsGivenUpIn, IsStage}
use Rattle.top_rounds.specs.Rounds.{CountsRounds, clean_in_end}
use Rattle.top_acts.specs.Begun.{MayBegin, MaySweep, SweepHas}
use Rattle.top_acts.specs.Seats.{HasSeats}
use Rattle.top_acts.specs.Sweeping.{SweepsBehind}
use Rattle.top_acts.specs.Sweeps.{Sweeps, Round}
use Rattle.top_acts.specs.Stages.{AreStaged}
use Rattle.eng_cols.specs.Cols.{HasDeviceOn}

-- label writes, and none where the array isn't lost
abbrev pub AreLast : Option Loss → List Call → Type 0
AreLast lost calls = MatchOption lost (calls ≡ []) (λ loss. All IsLabelWrite calls)

module _ {D : Type 0} (g : Ghosts D) (sweep : Sweeps) (y : Shape) where
  -- What a sweep behind an opening round, or maps, has done: where the array is lost by it, one round was written, and else the labels stay as they were, and no sector has changed but those of the sweep.
  pub record SweepsLabelled (label next : Label) (columns after : List Column) (old new : List (Option D)) (lost : Option Loss) (n : ℕ) : Type 0 where
    pub rounds : ℕ
    pub few : rounds ≤ 1
    pub none : lost ≡ None → rounds ≡ 0
    pub stage : IsStage g (MayBegin g Round sweep y columns old) (λ d. AreStaged (λ calls. calls ≡ []) (AreLast lost) sweep y (states_of y columns) d) lost columns after old new
    pub counter : CountsRounds rounds label next (length stage.rises)
    pub label_is : next ≡ with_round label next.counter (clean_in_end lost label.clean) (seating_in next)
    pub seated : ((lost ≡ None) × (seating_in next ≡ seating_in label)) ⊎ HasSeats g lost next columns after old new
    pub given_up : IsGivenUpIn lost after
    pub held : (c d : ℕ) → HasDeviceOn after c d → (lost ≡ None → HoldsLabel g old label c d) → HoldsLabel g new next c d
    pub same : lost ≡ None → next ≡ label
    pub alone : lost ≡ None → Changes g (MaySweep g sweep y columns old) old new
    pub swept : SweepHas g sweep y columns after old new n
    pub behind : SweepsBehind g sweep y label next columns after old new lost n
