-- An array with labels once it was begun, and once it was closed.
use Rattle.std.specs.Prelude.{◌≡◌, ◌<◌, ◌+◌, ◌^◌, ◌&&◌, ◌||◌, not, if◌then◌else◌, ℕ, List, length, Bool, true, false, Option, Some, None, Vec, is_some}
use Rattle.std.specs.declared.alloc.Global.{Global}
use Rattle.blk_disk.specs.declared.disk.Disk.{Ghosts as DiskGhosts}
use Rattle.lay_core.specs.Layout.{Shape, IsLayout}
use Rattle.lay_core.specs.declared.layout.Layout.{Ghosts as LayoutGhosts}
use Rattle.eng_cols.specs.declared.column.Column.{Column}
use Rattle.eng_cols.specs.declared.spot.Loss.{Loss}
use Rattle.eng_cols.specs.Cols.{IsFor}
use Rattle.eng_array.specs.Fitting.{FitsTrace}
use Rattle.eng_array.specs.declared.start.Start.{Start}
use Rattle.eng_events.specs.Opened.{IsSetup}
use Rattle.eng_parts.specs.declared.core_room.CoreRoom.{CoreRoom}
use Rattle.eng_parts.specs.declared.setup.Closed.{Closed}
use Rattle.raid_label.specs.declared.label.Label.{Label}
use Rattle.eng_cols.specs.Settable.{IsSettable}
use Rattle.raid_map.specs.Regions.{Marks as Map}
use Rattle.top_acts.specs.Begun.{CanAct}
use Rattle.raid_map.specs.Marking.{CanBeMarked}
use Rattle.top_acts.specs.Failed.{EndsFailed, IsLeftLost}
use Rattle.raid_map.specs.Asking.{file_of}
use Rattle.top_acts.specs.Cleared.{EndsInSteps, EndsMapped, EndsMappedSettled}
use Rattle.top_acts.specs.Mapped.{AreMaps, LooksAtMaps, unmarked}
use Rattle.top_acts.specs.Sweeps.{Notice}
use Rattle.eng_cols.specs.Stripes.{states_of}
use Rattle.top_close.specs.Ended.{IsLossBy}
use Rattle.top_rounds.specs.Labels.{IsLabelFor}
use Rattle.top_rounds.specs.Passes.{CanBeLabelled}
use Rattle.top_run.specs.Work.{Service}
use Rattle.top_run.specs.Works.{service_of}
use Rattle.top_serve.specs.Setups.{IsNotLost, IsRoomOf, MayStart, shape_in}
use Rattle.top_serve.specs.Served.{IsServed}
use Rattle.top_labelled.specs.declared.labelled.Labelled.{Labelled}
use Rattle.top_labelled.specs.declared.labelled.Outcome.{Outcome}
use Rattle.top_labelled.specs.declared.labelled.Outcome.TheVariants as outcome
use Rattle.top_labelled.specs.declared.beginning.Started.{Started}
use Rattle.top_labelled.specs.Begun.{IsSeatedIf, IsColumnWithin, is_in_place, is_kept, sweeps_in, without}
use Rattle.top_labelled.specs.Words.{BeginsUnless, notice_in, writes_maps, closing_label, clear_if, MarksAsked, line_of}
use Rattle.top_labelled.specs.declared.opening.AskedOpening.{AskedOpening}
use Rattle.top_labelled.specs.Ran.{onto}

-- Unless the array was lost, as its maps were read, it was begun, and then the column was made dead that is to be rebuilt anew, where one is; and this begins of the rebuild. What was before that death is named.
pub record HasOpened {D : Type 0} (g : DiskGhosts D) (y : Shape) (asked : AskedOpening) (notice : Notice) (union : Map) (unread : Option Loss) (newest next : Label) (columns after : List Column) (old new : List (Option D)) (lost : Option Loss) (began : Option Start) : Type 0 where
  pub opened : List (Option D)
  pub begun : List Column
  pub first : Label
  pub before : Option Loss
  pub found : ℕ
  pub has : BeginsUnless g unread notice (sweeps_in newest union) y newest first columns begun old opened before found
  pub was_lost : IsLossBy y None (states_of y begun) before
  pub fails : EndsFailed g before lost first next (without asked.start begun) after opened new
  pub lost_is : IsLossBy y None (states_of y after) lost
  pub began_is : began ≡ (if asked.failed || (asked.was_in_place && not (is_in_place asked.start begun)) then None else asked.start)

-- what is asked of the opening of an array with these columns
abbrev pub asked_of : Option Start → Bool → Bool → List Column → AskedOpening
asked_of start failed keeps columns = record { start = start; failed = failed; was_in_place = is_in_place start columns; keeps = keeps }

module _ {L D : Type 0} (lay : LayoutGhosts L) (disk : DiskGhosts D) where
  -- It was begun: its maps were read; where one is kept, marked are what they mark together and the regions of what is asked; and it was opened. Of the setup devices and columns alone are others. It can be acted on, and the judge is for its layout.
  pub record IsBegun (l : Labelled L D) (b : Started L D) : Type 0 where
    pub setup : b.setup ≡ record l.setup { devices = b.setup.devices; columns = b.setup.columns }
    pub looked : List (Option D)
    pub read : List Column
    pub unread : Option Loss
    pub looks : LooksAtMaps disk (shape_in lay l.setup) (unmarked (shape_in lay l.setup).stripes l.label.serial) b.maps.union l.setup.columns.items read l.setup.devices.items looked unread
    pub marked : is_kept l.map l.label ≡ true → MarksAsked (shape_in lay l.setup) (file_of l.setup.graphs.items) l.setup.clients.items read l.start b.maps.union (unmarked (shape_in lay l.setup).stripes l.label.serial) b.maps.marks
    pub opens : HasOpened disk (shape_in lay l.setup) (asked_of l.start l.failed (is_kept l.map l.label) l.setup.columns.items) (notice_in (is_kept l.map l.label) b.maps.marks) b.maps.union unread l.label b.label read b.setup.columns.items looked b.setup.devices.items b.lost b.began
    pub clears : b.clears ≡ writes_maps (is_kept l.map l.label) b.maps.union
    pub maps : AreMaps (shape_in lay l.setup) b.maps
    pub serial : b.maps.marks.serial ≡ l.label.serial
    pub can : CanAct disk (shape_in lay l.setup) b.setup.columns.items b.setup.devices.items
    pub held : IsLabelFor b.setup.columns.items b.label
    pub judge : IsFor (shape_in lay l.setup) b.judge
    pub layout : IsLayout (shape_in lay l.setup)
    pub asked : b.asked ≡ l.start
    pub device : b.device ≡ onto l.start l.setup.columns.items

  -- what was served can be closed with this label, and its maps can be cleared
  pub record MayClose (closed : Closed L D) (label : Label) : Type 0 where
    pub array : CanBeLabelled disk closed.columns.items closed.devices.items
    pub marks : CanBeMarked disk closed.columns.items closed.devices.items
    pub columns : IsSettable (lay.shape closed.layout) closed.columns.items
    pub held : IsLabelFor closed.columns.items label
    pub counter : label.counter + 98 < 2 ^ 32

  -- What was served was closed, each device in use being settled first unless the array was lost, which then has its one round alone; and its maps were cleared, if they are to be, unless it was lost by the closing: what is told but for columns, loss and line is what was handed back; the line is that of the rebuild that was asked, onto this device or into the spare places, by the columns as the core was closed and the loss in the end; and the loss is that of before, or else of the columns in the end.
  pub record HasEnded (closed : Closed L D) (label : Label) (clear : Option Map) (asked : Option Start) (device : Option ℕ) (s : Service) (back : List (Option D)) : Type 0 where
    pub last : Label
    pub told : s ≡ service_of closed s.line s.ending
    pub line : s.line ≡ line_of (lay.shape closed.layout) asked device closed.columns.items s.ending.lost
    pub closes : EndsMapped disk clear false (closing_label label) last closed.columns.items s.ending.columns closed.devices.items back s.ending.lost
    pub first : closed.lost ≡ None → EndsMappedSettled disk clear (closing_label label) last closed.columns.items s.ending.columns closed.devices.items back s.ending.lost
    pub left : (loss : Loss) → closed.lost ≡ Some loss → IsLeftLost disk loss (closing_label label) last closed.columns.items s.ending.columns closed.devices.items back
    pub steps : EndsInSteps disk clear (lay.shape closed.layout) closed.lost (closing_label label) last closed.columns.items s.ending.columns closed.devices.items back s.ending.lost
    pub lost : IsLossBy (lay.shape closed.layout) closed.lost (states_of (lay.shape closed.layout) s.ending.columns) s.ending.lost

  -- what was begun can be served in the room, and closed
  pub record CanServe (b : Started L D) (room : CoreRoom D) : Type 0 where
    pub setup : IsSetup lay disk b.setup
    pub fits : IsRoomOf lay b.setup room
    pub trace : FitsTrace lay b.setup
    pub kept : IsNotLost lay b.setup
    pub array : CanBeLabelled disk b.setup.columns.items b.setup.devices.items
    pub held : IsLabelFor b.setup.columns.items b.label
    pub counter : b.label.counter + 98 < 2 ^ 32
    pub judge : IsFor (shape_in lay b.setup) b.judge
    pub start : MayStart lay disk b.setup b.began
    pub seated : IsSeatedIf (length b.setup.columns.items) b.began
    pub within : IsColumnWithin b.asked (length b.setup.columns.items)

  -- it was served, and closed; its maps were cleared, if they are to be, unless the array was lost in the run
  pub record HasServed (b : Started L D) (s : Service) (back : List (Option D)) : Type 0 where
    pub closed : Closed L D
    pub served : IsServed lay disk b.setup b.began closed
    pub ended : HasEnded closed b.label (clear_if (b.clears && not (is_some closed.lost)) (unmarked b.maps.marks.stripes b.maps.marks.serial)) b.asked b.device s back

module _ {L D : Type 0} where
  -- its columns, its loss and its devices are what came
  abbrev pub IsLeftBy : Started L D → Outcome → Vec (Option D) Global → Type 0
  IsLeftBy b (outcome.Ran service) devices = ⊥
  IsLeftBy b (outcome.Lost ending) devices = (ending ≡ record { columns = b.setup.columns; lost = b.lost }) × (devices ≡ b.setup.devices)
