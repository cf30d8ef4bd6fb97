-- A rebuild from its start to its judgement, as the core is opened and closed.
use Rattle.std.specs.Prelude.{◌≡◌, ◌⊎◌, ◌<◌, ℕ, List, Bool, true, false, MatchBool, Option, Some, None, Vec, slice_get, slice_set}
use Rattle.std.specs.declared.alloc.Global.{Global}
use Rattle.blk_disk.specs.declared.disk.Disk.{Ghosts as DiskGhosts}
use Rattle.lay_core.specs.Layout.{Shape}
use Rattle.lay_core.specs.declared.layout.Layout.{Ghosts as LayoutGhosts}
use Rattle.eng_cols.specs.declared.column.Column.{Column}
use Rattle.eng_cols.specs.declared.column.Column.TheVariants as column
use Rattle.eng_cols.specs.Cols.{ColumnState, is_filling, passes}
use Rattle.eng_cols.specs.Seats.{HasStripeLeft, IsWhole}
use Rattle.eng_parts.specs.declared.setup.Closed.{Closed}
use Rattle.eng_state.specs.declared.array.Array.{Array}
use Rattle.eng_events.specs.Closed.{IsClosed}
use Rattle.eng_starts.specs.Rebuilding.{Started, added}
use Rattle.eng_array.specs.Fitting.{FitsRebuild}
use Rattle.eng_array.specs.Starts.{CanStart, begun_by, column_of, event_of, most_of}
use Rattle.eng_array.specs.Tickets.{Happens}
use Rattle.eng_array.specs.declared.start.Start.{Start}
use Rattle.eng_array.specs.declared.start.Start.TheVariants as start

-- what a column is once it was judged: one that was to be spread and isn't whole is dead, and one that was filling and is whole is live
abbrev pub judged : Bool → Option Column → Column
judged whole None = column.Dead
judged whole (Some (column.Live device)) = column.Live device
judged whole (Some column.Dead) = column.Dead
judged true (Some (column.Filling device done)) = column.Live device
judged false (Some (column.Filling device done)) = column.Filling device done
judged true (Some column.Spread) = column.Spread
judged false (Some column.Spread) = column.Dead

-- one column is judged, by whether it is whole
abbrev pub JudgedAt : Shape → List ColumnState → ℕ → List Column → List Column → Type 0
JudgedAt y states c old new = (whole : Bool) × MatchBool whole (IsWhole y states c) (HasStripeLeft y states c) × (new ≡ slice_set old c (judged whole (slice_get old c)))

-- so is the one that is filling, if there is one
abbrev pub IsFilledJudged : Shape → List ColumnState → List Column → List Column → Type 0
IsFilledJudged y states old new = ((c : ℕ) × (c < y.columns) × (passes is_filling (slice_get states c) ≡ true) × JudgedAt y states c old new) ⊎ (((c : ℕ) → c < y.columns → passes is_filling (slice_get states c) ≡ false) × (new ≡ old))

-- The columns once they are judged: the one that was to be spread, beside which none is filling; else the one that is filling.
abbrev pub IsJudged : Shape → List ColumnState → Option Start → List Column → List Column → Type 0
IsJudged y states None old new = IsFilledJudged y states old new
IsJudged y states (Some (start.Fill c device most)) old new = IsFilledJudged y states old new
IsJudged y states (Some (start.Resume c most)) old new = IsFilledJudged y states old new
IsJudged y states (Some (start.Spread c)) old new = JudgedAt y states c old new

-- the column that is judged, if one is
abbrev pub FilledAt : Shape → List ColumnState → Option ℕ → Type 0
FilledAt y states None = (c : ℕ) → c < y.columns → passes is_filling (slice_get states c) ≡ false
FilledAt y states (Some c) = (c < y.columns) × (passes is_filling (slice_get states c) ≡ true)

abbrev pub JudgesAt : Shape → List ColumnState → Option Start → Option ℕ → Type 0
JudgesAt y states None at = FilledAt y states at
JudgesAt y states (Some (start.Fill c device most)) at = FilledAt y states at
JudgesAt y states (Some (start.Resume c most)) at = FilledAt y states at
JudgesAt y states (Some (start.Spread c)) at = at ≡ Some c

module _ {L D : Type 0} (lay : LayoutGhosts L) (disk : DiskGhosts D) where
  -- where a rebuild is to start, it may, and there is room for it
  abbrev pub CanBegin : Array L D → Option Start → Type 0
  CanBegin core None = Unit {0}
  CanBegin core (Some how) = CanStart lay disk core how × FitsRebuild lay core (begun_by core.cols how) (column_of how) (most_of how)

  -- it has started, by one event; where none is to start nothing has changed
  abbrev pub HasStarted : Array L D → Option Start → Array L D → Type 0
  HasStarted old None new = new ≡ old
  HasStarted old (Some how) new = Happens lay disk (event_of how (added new)) old new × Started lay old (column_of how) (most_of how) (begun_by old.cols how) (event_of how) new

  -- the column that was rebuilt, if one was, is one of the core's
  abbrev pub HasColumn : Array L D → Option Start → Type 0
  HasColumn core None = Unit {0}
  HasColumn core (Some how) = column_of how < (lay.shape core.layout).columns

-- the core was closed with these columns, and then the one that was being rebuilt was judged
pub record IsClosedBy {L D : Type 0} (lay : LayoutGhosts L) (core : Array L D) (how : Option Start) (closed : Closed L D) : Type 0 where
  pub were : Vec Column Global
  pub is_closed : IsClosed lay core (record closed { columns = were })
  pub judged : IsJudged (lay.shape core.layout) core.cols.states how were.items closed.columns.items
