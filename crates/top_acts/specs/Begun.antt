-- A labelled array is begun with: its opening round, and the sweep behind that.
use Rattle.std.specs.Prelude.{◌≡◌, ◌⊎◌, ◌<◌, ◌≤◌, ◌+◌, ◌&&◌, ℕ, List, [], length, Bool, true, false, Option, Some, None, All, is_some, MatchOption}
use Rattle.blk_disk.specs.declared.disk.Disk.{Ghosts}
use Rattle.blk_disk.specs.Devices.{Changes, contents_of, device_at, sector_of}
use Rattle.lay_core.specs.Layout.{Shape}
use Rattle.eng_cols.specs.declared.column.Column.{Column}
use Rattle.eng_cols.specs.declared.spot.Loss.{Loss}
use Rattle.eng_cols.specs.Contents.{InSync}
use Rattle.raid_label.specs.declared.label.Label.{Label}
use Rattle.raid_recon.specs.declared.kind.Sweep.{Sweep}
use Rattle.eng_cols.specs.Stripes.{states_of}
use Rattle.raid_recon.specs.Array.{IsArray}
use Rattle.raid_recon.specs.Ends.{MayRewrite, ChecksHold, IsCounted}
use Rattle.top_close.specs.Ended.{IsLossBy}
use Rattle.top_rounds.specs.Calls.{IsLabelWrite}
use Rattle.top_rounds.specs.Labels.{seating_in, seats_of, with_round}
use Rattle.top_rounds.specs.Passes.{CanBeLabelled, HoldsLabel, IsKeptInUse}
use Rattle.top_close.specs.Stage.{IsGivenUpIn, IsStage, ToldNothing}
use Rattle.top_rounds.specs.Rounds.{CountsRounds}
use Rattle.raid_map.specs.Regions.{Marks as Map, IsBytesOf}
use Rattle.raid_map.specs.Sweeping.{MayRewrite as MayRewriteMarked, IsCountedTo, UnsoundAreMarked}
use Rattle.eng_cols.specs.Settable.{IsSettable}
use Rattle.top_acts.specs.Closed.{ClosesLabelled}
use Rattle.top_acts.specs.Failed.{IsLeftLost, StaysBegun}
use Rattle.top_acts.specs.Marking.{AreNotice, MarksAll}
use Rattle.top_acts.specs.Seats.{HasSeats, names}
use Rattle.top_acts.specs.Stages.{AreStaged}
use Rattle.top_acts.specs.Sweeping.{SweepsBehind}
use Rattle.top_acts.specs.Sweeps.{Sweeps, Nothing, Over, Marked, Notice, Round, Marks, rounds_for, clean_in}
use Rattle.eng_cols.specs.Cols.{HasDeviceOn}

module _ {D : Type 0} (g : Ghosts D) where
  -- What a sweep did: it counted as it should, and each check unit holds the sum of its stripe's data units or what it held, and the units of each stripe that lacks none in the end sum to zero.
  pub record HasSwept (kind : Sweep) (y : Shape) (columns after : List Column) (old new : List (Option D)) (n : ℕ) : Type 0 where
    pub counted : y.checks ≡ 1 → IsCounted g kind y columns after old n
    pub none : y.checks ≡ 0 → n ≡ 0
    pub checks : y.checks ≡ 1 → g.tells → ChecksHold g y columns after old new
    pub in_sync : g.tells → InSync y (contents_of g new) (states_of y after)

  -- What a sweep over marked stripes did: it counted as it should, and each check unit holds the sum of its stripe's data units or what it held; and where each stripe that lacked no unit and wasn't in sync was marked, the units of each stripe that lacks none in the end sum to zero.
  pub record HasSweptMarked (marks : ℕ → Bool) (y : Shape) (columns after : List Column) (old new : List (Option D)) (n : ℕ) : Type 0 where
    pub counted : y.checks ≡ 1 → IsCountedTo g y marks columns old y.stripes after n
    pub none : y.checks ≡ 0 → n ≡ 0
    pub checks : y.checks ≡ 1 → g.tells → ChecksHold g y columns after old new
    pub in_sync : g.tells → UnsoundAreMarked g y marks columns old → InSync y (contents_of g new) (states_of y after)

  abbrev pub SweepHas : Sweeps → Shape → List Column → List Column → List (Option D) → List (Option D) → ℕ → Type 0
  SweepHas Nothing y columns after old new n = n ≡ 0
  SweepHas (Over kind) y columns after old new n = HasSwept kind y columns after old new n
  SweepHas (Marked marks) y columns after old new n = HasSweptMarked marks y columns after old new n

  -- there are check units, and sector n of device d is one of such that this sweep rewrites
  abbrev pub MaySweep : Sweeps → Shape → List Column → List (Option D) → ℕ → ℕ → Type 0
  MaySweep Nothing y columns old d n = ⊥
  MaySweep (Over kind) y columns old d n = (y.checks ≡ 1) × MayRewrite g kind y columns old d n
  MaySweep (Marked marks) y columns old d n = (y.checks ≡ 1) × MayRewriteMarked g y marks columns old y.stripes d n

  -- or sector 0 of a device in use; or sector 1, where maps are written
  abbrev pub MayBegin : Notice → Sweeps → Shape → List Column → List (Option D) → ℕ → ℕ → Type 0
  MayBegin Round sweep y columns old d n = IsKeptInUse false columns d n ⊎ MaySweep sweep y columns old d n
  MayBegin (Marks map) sweep y columns old d n = IsKeptInUse true columns d n ⊎ MaySweep sweep y columns old d n

  -- What was done behind maps on each device in use: where the array is lost by the columns that these left, its one round was written; else, where the labels don't name those columns, rounds were written that do, as clean as before, each device in use being settled behind them; else no device was called.
  abbrev pub Names : (marked : Option Loss) → (named : Bool) → Label → Label → List Column → List Column → List (Option D) → List (Option D) → Option Loss → Type 0
  Names (Some by) named label next columns after old new lost = (loss : Loss) × (lost ≡ Some loss) × IsLeftLost g loss label next columns after old new
  Names None true label next columns after old new lost = StaysBegun g label next columns after old new × (lost ≡ None)
  Names None false label next columns after old new lost = ClosesLabelled g true label next columns after old new lost

  -- The opening round was written, whose labels aren't clean, and each device in use was settled behind it, last of all its calls; where one failed as it was settled, rounds began anew. Where the array is lost by that, its one round was written.
  abbrev pub Opens : Notice → Shape → Option Loss → Label → Label → List Column → List Column → List (Option D) → List (Option D) → Type 0
  Opens Round y lost label first columns after old new = ClosesLabelled g true (record label { clean = 0 }) first columns after old new lost
  -- Or each device in use was marked with the map and settled; and labels were written behind that unless the newest label names the columns as they were, and as the marks left them.
  Opens (Marks map) y lost label first columns after old new = (mid : List Column) × (dev : List (Option D)) × (marked : Option Loss) × MarksAll g map columns mid old dev
      × IsLossBy y None (states_of y mid) marked × Names marked (names label columns && names label mid) label first mid after dev new lost

  -- The opening round was written, whose labels aren't clean, or maps on each device in use in the place of that, and a round that is as clean as before behind them where the newest label doesn't name the columns; then, where that didn't lose the array, it was swept; and where the array is lost by that, the one round of a lost array was written. Where a round was written, so that the counter is greater, each device in use in the end has the label of the last one, which says what the columns were then; else the label stays the newest's; and each device in use has the map, where maps were written. `left`, `dev`, `first` and `opened` are the columns, the devices, the label and the loss, by those columns, that this left before the sweep: the label has the seats of those columns, unless the array is lost; what was lost then stays lost by that, and nothing else was called; what wasn't was swept, and has its one round behind that where it is lost by it; no column has a device in the end that it hadn't then, no device that they left out of use was called behind them, and no sector has changed behind them but those of the sweep, and those of labels, where the array is lost. All else is said by the columns and devices as they were before; n is what the sweep counted.
  pub record HasBegun (notice : Notice) (sweep : Sweeps) (y : Shape) (label next : Label) (columns after : List Column) (old new : List (Option D)) (lost : Option Loss) (n : ℕ) : Type 0 where
    pub rounds : ℕ
    pub some : rounds_for notice (names label columns) ≤ rounds
    pub few : rounds ≤ rounds_for notice (names label columns) + 1
    pub one : lost ≡ None → rounds ≡ rounds_for notice (names label columns)
    pub stage : IsStage g (MayBegin notice sweep y columns old) (λ d. AreStaged (AreNotice notice) (λ calls. MatchOption lost (calls ≡ []) (λ loss. All IsLabelWrite calls)) sweep y (states_of y columns) d) lost columns after old new
    pub counter : CountsRounds rounds label next (length stage.rises)
    pub bounded : next.counter ≤ label.counter + 34
    pub wrote : is_some lost ≡ true → label.counter < next.counter
    pub label_is : label.counter < next.counter → next ≡ with_round label next.counter (clean_in notice lost label.clean) (seating_in next)
    pub seated : label.counter < next.counter → HasSeats g lost next columns after old new
    pub given_up : IsGivenUpIn lost after
    pub held : label.counter < next.counter → (c d : ℕ) → HasDeviceOn after c d → HoldsLabel g new next c d
    pub same : next.counter ≡ label.counter → next ≡ label
    pub mapped : (map : Map) → notice ≡ Marks map → (c d : ℕ) → HasDeviceOn after c d → g.tells → IsBytesOf map (sector_of g new d 1)
    pub others : sweep ≡ Nothing → (d : ℕ) → ((c : ℕ) → HasDeviceOn columns c d → ⊥) → device_at new d ≡ device_at old d
    pub swept : lost ≡ None → SweepHas sweep y columns after old new n
    pub still : g.tells → InSync y (contents_of g old) (states_of y columns) → InSync y (contents_of g new) (states_of y after)
    pub left : List Column
    pub dev : List (Option D)
    pub first : Label
    pub opened : Option Loss
    pub opens : Opens notice y opened label first columns left old dev
    pub named : opened ≡ None → first.seats ≡ seats_of left
    pub opened_is : IsLossBy y None (states_of y left) opened
    pub stays : is_some opened ≡ true → lost ≡ opened
    pub unswept : is_some opened ≡ true → (n ≡ 0) × StaysBegun g first next left after dev new
    pub sweeps : opened ≡ None → SweepsBehind g sweep y first next left after dev new lost n
    pub behind : ToldNothing g left dev new
    pub since : Changes g (λ d n. ((is_some lost ≡ true) × (n ≡ 0)) ⊎ MaySweep sweep y columns old d n) dev new
    pub lives : (c d : ℕ) → HasDeviceOn after c d → HasDeviceOn left c d

  -- what can be acted on: its columns are as many as the layout's, and their devices are there, large enough, and can be labelled
  pub record CanAct (y : Shape) (columns : List Column) (devices : List (Option D)) : Type 0 where
    pub array : IsArray g y columns devices
    pub labels : CanBeLabelled g columns devices
    pub settable : IsSettable y columns
