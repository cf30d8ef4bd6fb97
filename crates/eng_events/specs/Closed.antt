-- What a closed core hands back.
use Rattle.std.specs.Prelude.{◌≡◌, ◌<◌, ℕ, List, length, Some, None, option_map, slice_get}
use Rattle.lay_core.specs.Layout.{Shape}
use Rattle.lay_core.specs.declared.layout.Layout.{Ghosts as LayoutGhosts}
use Rattle.eng_cols.specs.declared.column.Column.{Column}
use Rattle.eng_cols.specs.Cols.{ColumnState, column_with}
use Rattle.eng_cols.specs.Stripes.{leading}
use Rattle.eng_parts.specs.declared.setup.Closed.{Closed}
use Rattle.eng_state.specs.declared.array.Array.{Array}
use Rattle.eng_parts.specs.Shelf.{Seen, seen_at}
use Rattle.eng_clients.specs.Replied.{AreClosed}

-- Each column as it is read: one that is filling with as many stripes as are done with all of its stripes before them.
pub record AreColumns (y : Shape) (cols : List ColumnState) (columns : List Column) : Type 0 where
  pub count : length columns ≡ length cols
  pub each : (c : ℕ) → c < length cols → option_map (column_with (leading y cols c)) (slice_get cols c) ≡ slice_get columns c

-- All that the core has: layout, columns, history, trace, loss and count; each device in its place; of each client that was handed in its items and its replies; and the sectors that reads handed out, with the region of each item, the row of the array's own client last.
pub record IsClosed {L D : Type 0} (lay : LayoutGhosts L) (core : Array L D) (closed : Closed L D) : Type 0 where
  pub layout : closed.layout ≡ core.layout
  pub count : length closed.devices.items ≡ length core.devices.slots
  pub absent : (d : ℕ) → seen_at core.devices d ≡ None → d < length closed.devices.items → slice_get closed.devices.items d ≡ Some None
  pub devices : (d : ℕ) (s : Seen D) → seen_at core.devices d ≡ Some s → slice_get closed.devices.items d ≡ Some (Some s.device)
  pub columns : AreColumns (lay.shape core.layout) core.cols.states closed.columns.items
  pub clients : AreClosed core.lost core.clients core.spare closed.clients.items closed.replies.items
  pub history : closed.history.items ≡ core.log.history
  pub trace : closed.trace.items ≡ core.log.trace
  pub lost : closed.lost ≡ core.lost
  pub rebuilt : closed.rebuilt ≡ core.log.rebuilt
  pub sectors : closed.sectors ≡ core.log.handed.bytes
  pub regions : closed.regions.items ≡ core.log.handed.regions
