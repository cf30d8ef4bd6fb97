-- How a rebuild starts: onto a device, or into the spare places.
use Rattle.std.specs.Prelude.{◌≡◌, ℕ, List, slice_set, replicate, false}
use Rattle.blk_disk.specs.declared.disk.Disk.{Ghosts as DiskGhosts}
use Rattle.lay_core.specs.declared.layout.Layout.{Ghosts as LayoutGhosts}
use Rattle.eng_cols.specs.Cols.{Columns, ColumnState, Filling, Spread}
use Rattle.eng_world.specs.declared.item.Traced.{Traced}
use Rattle.eng_world.specs.declared.item.Traced.TheVariants as event
use Rattle.eng_state.specs.declared.array.Array.{Array}
use Rattle.eng_log.specs.Log.{noted}
use Rattle.eng_state.specs.Steps.{Follows}
use Rattle.eng_starts.specs.Rebuilding.{CanFill, CanResume, CanSpread, Started, added}
use Rattle.eng_array.specs.Steady.{IsSteady}
use Rattle.eng_array.specs.Tickets.{Happens, KeepsJobs}
use Rattle.eng_array.specs.declared.start.Start.{Start}
use Rattle.eng_array.specs.declared.start.Start.TheVariants as start

-- the column that it rebuilds
abbrev pub column_of : Start → ℕ
column_of (start.Fill column device most) = column
column_of (start.Resume column most) = column
column_of (start.Spread column) = column

-- how many rebuilds it asks for at most
abbrev pub most_of : Start → ℕ
most_of (start.Fill column device most) = most
most_of (start.Resume column most) = most
most_of (start.Spread column) = 4294967295

-- the event that it is, with so many rebuilds
abbrev pub event_of : Start → ℕ → Traced
event_of (start.Fill column device most) n = event.Fill column device n
event_of (start.Resume column most) n = event.Resume column n
event_of (start.Spread column) n = event.Spread column

-- the columns behind it: one that it begins has no stripe done
abbrev pub begun_by : Columns → Start → List ColumnState
begun_by cols (start.Fill column device most) = slice_set cols.states column (Filling device (replicate cols.stripes false))
begun_by cols (start.Resume column most) = cols.states
begun_by cols (start.Spread column) = slice_set cols.states column (Spread (replicate cols.stripes false))

-- it may be made
abbrev pub CanStart : {L D : Type 0} → LayoutGhosts L → DiskGhosts D → Array L D → Start → Type 0
CanStart lay disk core (start.Fill column device most) = CanFill lay disk core column device
CanStart lay disk core (start.Resume column most) = CanResume lay disk core column
CanStart lay disk core (start.Spread column) = CanSpread lay disk core column

-- The column's rebuild goes on: client 16 has the rebuilds, and this is one event, which is traced.
pub record HasResumed {L D : Type 0} (lay : LayoutGhosts L) (disk : DiskGhosts D) (column count : ℕ) (old new : Array L D) : Type 0 where
  pub started : Started lay old column count old.cols.states (event.Resume column) new
  pub step : Follows lay disk old (event.Resume column (added new)) new
  pub steady : IsSteady lay disk new
  pub trace : new.log ≡ noted old.log (event.Resume column (added new))
  pub happens : Happens lay disk (event.Resume column (added new)) old new
  pub keeps : KeepsJobs lay disk old new
