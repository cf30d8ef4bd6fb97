-- What a run of clients over an array with labels is, and what it leaves.
use Rattle.std.specs.Prelude.{◌≡◌, ◌⊎◌, ◌<◌, ◌≤◌, ◌+◌, ◌*◌, ◌&&◌, ◌||◌, not, if◌then◌else◌, ℕ, List, ◌∷◌, ◌++◌, length, All, Bool, true, false, Option, Some, None, is_some, option_map, slice_get}
use Rattle.std.specs.Option.{option_map_or}
use Rattle.blk_disk.specs.declared.disk.Call.{Call}
use Rattle.blk_disk.specs.declared.disk.Disk.{Ghosts}
use Rattle.blk_disk.specs.Disk.{call_of}
use Rattle.blk_disk.specs.Devices.{size_of, sector_of, contents_of, calls_of, RisesOn, Changes}
use Rattle.lay_core.specs.Layout.{Shape}
use Rattle.eng_array.specs.Starts.{column_of}
use Rattle.eng_array.specs.declared.start.Start.{Start}
use Rattle.eng_array.specs.declared.start.Start.TheVariants as start
use Rattle.eng_cols.specs.declared.column.Column.{Column}
use Rattle.eng_cols.specs.declared.column.Column.TheVariants as column
use Rattle.eng_cols.specs.declared.spot.Loss.{Loss}
use Rattle.eng_cols.specs.Cols.{HasDevice, device_set, HasDeviceOn, has_device}
use Rattle.eng_cols.specs.Deaths.{Dies}
use Rattle.eng_cols.specs.Lost.{IsLost, NotLost}
use Rattle.eng_cols.specs.Stripes.{states_of, is_stripe_of}
use Rattle.eng_world.specs.World.{World}
use Rattle.raid_label.specs.declared.label.Label.{Label}
use Rattle.raid_label.specs.Bytes.{bytes_of}
use Rattle.top_acts.specs.Begun.{MayBegin}
use Rattle.top_acts.specs.Seats.{HasSeats, names}
use Rattle.top_acts.specs.Failed.{EndsFailed}
use Rattle.top_acts.specs.Cleared.{AreEndingInTurn, EndsInSteps, EndsInTurn, EndsMappedSettled}
use Rattle.top_acts.specs.Mapped.{is_any_marked, unmarked}
use Rattle.top_acts.specs.Sweeps.{Notice, Round, Marks, rounds_for}
use Rattle.top_close.specs.Calls.{EndsSettled}
use Rattle.top_rounds.specs.Calls.{IsLabelWrite, label_writes}
use Rattle.top_close.specs.Reserved.{IsReserved}
use Rattle.top_rounds.specs.Labels.{seating_in, seating_of, with_round}
use Rattle.top_rounds.specs.Passes.{HoldsLabel}
use Rattle.top_close.specs.Stage.{DiesIn, HaveFailed, IsGivenUp, IsGivenUpIn}
use Rattle.top_rounds.specs.Rounds.{IsTriedOn, clean_in_end}
use Rattle.top_run.specs.Work.{Work, Ending, Service}
use Rattle.top_run.specs.declared.service.Line.{Line}
use Rattle.top_run.specs.declared.service.Told.{Told}
use Rattle.top_run.specs.declared.service.Told.TheVariants as told
use Rattle.top_run.specs.Ran.{RisesAt, Ran}
use Rattle.top_serve.specs.Setups.{with_start}
use Rattle.top_serve.specs.Served.{IsKeptAs, WasFailed}
use Rattle.top_labelled.specs.Begun.{BeginsLabelled, HoldsBlocks, IsAnew, is_in_place, is_kept, sweeps_in, without}
use Rattle.top_labelled.specs.Maps.{IsKeptOrMap, MapsEnd, MapsInOrder}
use Rattle.lay_core.specs.Touched.{count_below}

-- ## The line of a rebuild

-- the device onto which a rebuild goes, where one is asked that does, of an array with these columns
abbrev pub onto : Option Start → List Column → Option ℕ
onto None columns = None
onto (Some (start.Fill c d most)) columns = Some d
onto (Some (start.Resume c most)) columns = device_set (slice_get columns c)
onto (Some (start.Spread c)) columns = None

-- how far the rebuild of a column came, by what that is as it is kept: done with the number of its stripes; where the array is lost in the end, no rebuild is paused
abbrev pub told_of : Shape → List Column → Option Loss → ℕ → Option Column → Told
told_of y kept lost c None = told.Stopped
told_of y kept lost c (Some column.Dead) = told.Stopped
told_of y kept lost c (Some (column.Live d)) = told.Done (count_below (is_stripe_of y (states_of y kept) c) y.stripes)
told_of y kept lost c (Some (column.Filling d m)) = option_map_or (λ loss. told.Stopped) lost (told.Paused m)
told_of y kept lost c (Some column.Spread) = told.Done (count_below (is_stripe_of y (states_of y kept) c) y.stripes)

-- ## The end of a run

-- `a` says what is asked, over the array as it was opened: the column that is to be rebuilt is what it was then.
module _ {D : Type 0} (g : Ghosts D) (a : Work) (newest : Label) (taken : List (Option D)) where
  -- ## A run

  module _ (s : Service) (back : List (Option D)) where
    -- the sector may have changed: it is the label's, or the map's where maps are written, or one of the array's rows, on a device that was in a column, or onto which the rebuild goes that began; or the device has no such sector
    abbrev pub MayChangeLabelled : (mapped : Bool) → Option Start → ℕ → ℕ → Type 0
    MayChangeLabelled mapped began d n = ((((c : ℕ) × HasDevice (states_of a.layout a.columns) c d) ⊎ ((c : ℕ) × (most : ℕ) × (began ≡ Some (start.Fill c d most))))
        × (IsReserved mapped n ⊎ ((64 ≤ n) × (n < 64 + a.layout.rows * a.layout.unit_sectors)))) ⊎ (size_of g taken d ≤ n)

    -- Devices hold what they do at the run's end, but for labels and maps, and have changed nowhere else since they were taken. `kept` are the columns as the core was closed. Behind the run the device of each that had one was called in turn: label writes, writes of maps where these are cleared, and settles none of which comes right behind another, all of which went well, but that the last failed where the column hasn't it in the end; of a column that was filling on a lost array all may have gone well. Where the array wasn't lost in the run the first is a settle; where it was, all are label writes; where it isn't lost in the end the last of a device in use is one. No other device was called.
    pub record LeavesLabelled (mapped : Bool) (began : Option Start) (kept : List Column) (now : World) : Type 0 where
      pub contents : g.tells → (d n k : ℕ) → (IsReserved mapped n → ⊥) → k < 512 → contents_of g back d n k ≡ now.contents d n k
      pub calls : (c d : ℕ) (told : List Call) → HasDeviceOn kept c d → calls_of g back d ≡ Some told → (closing : List Call) × (told ≡ now.calls d ++ closing)
          × (EndsInTurn mapped (has_device (slice_get s.ending.columns c)) false closing (not (is_some s.ending.lost)) ⊎ (IsGivenUp s.ending.lost kept c × ((settled : Bool) × AreEndingInTurn mapped false closing settled)))
      pub first : now.lost ≡ None → (c d : ℕ) (told : List Call) → HasDeviceOn kept c d → calls_of g back d ≡ Some told → (good : Bool) × (more : List Call) × (told ≡ now.calls d ++ call_of 2 0 0 good ∷ more)
      pub left : (loss : Loss) → now.lost ≡ Some loss → (c d : ℕ) (told : List Call) → HasDeviceOn kept c d → calls_of g back d ≡ Some told → (closing : List Call) × (told ≡ now.calls d ++ closing) × All IsLabelWrite closing
      pub others : (d : ℕ) (told : List Call) → ((c : ℕ) → HasDeviceOn kept c d → ⊥) → calls_of g back d ≡ Some told → told ≡ now.calls d
      pub settled : s.ending.lost ≡ None → (c d : ℕ) → HasDevice (states_of a.layout s.ending.columns) c d → EndsSettled (calls_of g back d)
      pub frame : Changes g (MayChangeLabelled mapped began) taken back

    -- The devices as the core was closed tell the run's calls, and hold what it left. From there the array was closed, step by step: labels, and behind them maps that are cleared, where maps were written in the call and the array wasn't lost in the run; none is where its closing lost it, and each of those in use is cleared once, but that a device that fails as it is cleared begins labels and clears anew. Where it wasn't lost in the run, each device in use was settled, once, before any of them got a label. Behind the run a device was written at most one label a round, as many as the counter is greater by, and one at least where it is in use in the end.
    pub record ClosesInSteps (mapped : Bool) (kept : List Column) (first last : Label) (now : World) : Type 0 where
      pub served : List (Option D)
      pub holds : g.tells → (d n k : ℕ) → k < 512 → contents_of g served d n k ≡ now.contents d n k
      pub calls : (d : ℕ) (told : List Call) → calls_of g served d ≡ Some told → told ≡ now.calls d
      pub steps : EndsInSteps g (if mapped && not (is_some now.lost) then Some (unmarked a.layout.stripes newest.serial) else None) a.layout now.lost (record first { clean = 1 }) last kept s.ending.columns served back s.ending.lost
      pub before : now.lost ≡ None → EndsMappedSettled g (if mapped then Some (unmarked a.layout.stripes newest.serial) else None) (record first { clean = 1 }) last kept s.ending.columns served back s.ending.lost
      pub labelled : (c d : ℕ) (told : List Call) → HasDeviceOn s.ending.columns c d → calls_of g back d ≡ Some told → (closing : List Call) × (told ≡ now.calls d ++ closing) × (1 ≤ label_writes closing)
      pub times : (d : ℕ) (told : List Call) → calls_of g back d ≡ Some told → (closing : List Call) × (told ≡ now.calls d ++ closing) × (first.counter + label_writes closing ≤ last.counter)

    -- Two rounds are named, or one where a map takes the place of the first, and the newest label names the columns that were left as its maps were read: the label of the last has a counter that is greater by that, and by at most one more for each device whose count of faults rose. It is clean unless the array is lost. It says what the columns of its round were, which are those in the end unless the array is lost; of a lost one no column is filling any more. Each device in use in the end has it. Another device whose count of faults didn't rise has what it had, or, of its own column, the label of the opening round, which is older; that of a column that was filling as the core was closed, on a lost array, may have the label of a round between the two, which was tried at the close before the array was lost, and so says clean.
    pub record IsRelabelled (notice : Notice) (named : Bool) (begun kept : List Column) (first last : Label) : Type 0 where
      pub rises : List ℕ
      pub failed : HaveFailed g taken back rises
      pub least : newest.counter + (rounds_for notice named + 1) ≤ last.counter
      pub most : last.counter ≤ newest.counter + (rounds_for notice named + 1) + length rises
      pub later : first.counter + 1 ≤ last.counter
      pub label_is : last ≡ with_round newest last.counter (clean_in_end s.ending.lost 1) (seating_in last)
      pub seating : s.ending.lost ≡ None → seating_in last ≡ seating_of s.ending.columns
      pub seated : HasSeats g s.ending.lost last kept s.ending.columns taken back
      pub given_up : IsGivenUpIn s.ending.lost s.ending.columns
      pub held : (c d : ℕ) → HasDeviceOn s.ending.columns c d → HoldsLabel g back last c d
      pub rest : g.tells → (d : ℕ) → 1 ≤ size_of g taken d → ((c : ℕ) → HasDeviceOn s.ending.columns c d → ⊥) → (RisesOn g taken back d → ⊥)
          → (sector_of g back d 0 ≡ sector_of g taken d 0)
          ⊎ (((c : ℕ) × (newest.counter < first.counter) × HasDeviceOn begun c d × (sector_of g back d 0 ≡ bytes_of (record first { column = c }))) ⊎ ((c : ℕ) × IsGivenUp s.ending.lost kept c × HasDeviceOn kept c d × IsTriedOn g (record first { clean = 1 }) last.counter back c d))

    -- The array was begun, and the column was made dead that is to be rebuilt anew; it isn't lost. Its rebuild began, unless the device onto which it goes had failed, be it before, where that is `faulty`, or since it was the column's own, as the array was begun. A run of what is asked, over the devices and columns as they were then, tells this and leaves the columns so; then the array was closed. No more has changed since the core was opened. In all a column is kept as what it was, or as its rebuild began, or has died since an item was replied ok by which it failed, its device's count of faults rose, it was to be rebuilt anew and that was stopped, or it was filling as the array was opened and that is lost.
    pub record RanLabelled (faulty map : Bool) : Type 0 where
      pub opened : List (Option D)
      pub begun : List Column
      pub first : Label
      pub last : Label
      pub began : Option Start
      pub begins : BeginsLabelled g a newest taken opened begun (is_kept map newest) first None
      pub kept : NotLost a.layout (states_of a.layout (without a.start begun))
      pub began_is : began ≡ (if faulty || (is_in_place a.start a.columns && not (is_in_place a.start begun)) then None else a.start)
      pub unbegun : began ≡ None → (a.start ≡ None) ⊎ ((faulty ≡ true) ⊎ ((col : ℕ) × (device : ℕ) × (onto a.start a.columns ≡ Some device)
          × ((rebuild : Start) → a.start ≡ Some rebuild → column_of rebuild ≡ col) × HasDeviceOn a.columns col device × RisesOn g taken opened device))
      pub run : Ran g (record a { columns = without a.start begun; start = began }) opened s back
      pub line : s.line ≡ option_map (λ (how : Start). record {
        column = column_of how;
        device = onto a.start a.columns;
        told = told_of a.layout run.ends.kept s.ending.lost (column_of how) (slice_get run.ends.kept (column_of how));
      }) a.start
      pub holds : HoldsBlocks g a newest taken opened begun begins.read begins.union run.start.blocks
      pub leaves : LeavesLabelled (is_kept map newest || is_any_marked begins.union) began run.ends.kept run.now
      pub since : Changes g (MayChangeLabelled (is_kept map newest || is_any_marked begins.union) began) opened back
      pub closes : ClosesInSteps (is_kept map newest || is_any_marked begins.union) run.ends.kept first last run.now
      pub maps : MapsEnd g a newest taken s back map begins.read begins.union begins.marks run.graphs run.now
      pub order : is_kept map newest ≡ true → MapsInOrder g a taken s back
      pub labels : IsRelabelled (if is_kept map newest then Marks begins.marks else Round) (names newest begins.read) begun run.ends.kept first last
      pub count : length s.ending.columns ≡ length a.columns
      pub ends : (c : ℕ) → IsKeptAs (slice_get (with_start a.start a.columns) c) (slice_get s.ending.columns c) ⊎ ((slice_get s.ending.columns c ≡ Some column.Dead) × (WasFailed run.now c ⊎ (RisesAt g a taken s back c ⊎ ((IsAnew a.start c × ((line : Line) × (s.line ≡ Some line) × (line.column ≡ c) × (line.told ≡ told.Stopped))) ⊎ IsGivenUp s.ending.lost a.columns c))))

  -- ## No run

  -- The array was lost as it was begun, or by the death of the column that is to be rebuilt anew: no core was opened. That column is dead, no column is filling any more, and by the columns in the end the array is lost. Sectors have changed as in the beginning alone; and in all a column is what it was, or it is the one that is to be rebuilt anew, or it was filling, or its device's count of faults rose.
  pub record IsLostBefore (map : Bool) (e : Ending) (back : List (Option D)) : Type 0 where
    pub opened : List (Option D)
    pub begun : List Column
    pub first : Label
    pub last : Label
    pub before : Option Loss
    pub begins : BeginsLabelled g a newest taken opened begun (is_kept map newest) first before
    pub fails : EndsFailed g before e.lost first last (without a.start begun) e.columns opened back
    pub loss : Loss
    pub lost : e.lost ≡ Some loss
    pub lost_is : IsLost a.layout (states_of a.layout e.columns) loss
    pub named : (c : ℕ) → IsAnew a.start c → slice_get e.columns c ≡ Some column.Dead
    pub frame : Changes g (MayBegin g (if is_kept map newest then Marks begins.marks else Round) (sweeps_in newest begins.union) a.layout a.columns taken) taken back
    pub maps : g.tells → (d : ℕ) → (RisesOn g taken back d → ⊥) → IsKeptOrMap g a newest taken back d
    pub dies : Dies (λ c. IsAnew a.start c ⊎ DiesIn g (Some loss) a.columns taken back c) a.columns e.columns
    pub given_up : IsGivenUpIn e.lost e.columns
