-- Whether a log has room for all that may come: of a core that opens, and of one that begins a rebuild.
use Rattle.std.specs.Prelude.{◌≡◌, ◌⊎◌, ◌≤◌, ◌+◌, ◌*◌, ℕ, List, [], length, true, Option, Some, None, slice_get, slice_index_or, Contains}
use Rattle.std.specs.List.Sorted.{IsStrictlyIncreasing}
use Rattle.lay_core.specs.Layout.{Shape}
use Rattle.lay_core.specs.declared.layout.Layout.{Ghosts as LayoutGhosts}
use Rattle.graph_mean.specs.Graph.{Held}
use Rattle.eng_cols.specs.Cols.{ColumnState}
use Rattle.eng_world.specs.Serving.{IsLeft}
use Rattle.eng_world.specs.declared.item.Item.{Item}
use Rattle.eng_world.specs.declared.item.Item.TheVariants as item
use Rattle.item_list.specs.ItemList.{ItemList}
use Rattle.eng_rest.specs.Left.{below, alive}
use Rattle.eng_parts.specs.declared.setup.Setup.{Setup}
use Rattle.eng_state.specs.declared.array.Array.{Array}
use Rattle.eng_clients.specs.Desk.{desk_at}
use Rattle.eng_log.specs.Given.{items_at}
use Rattle.eng_cols.specs.Stripes.{states_of}
use Rattle.eng_array.specs.Serving.{most_for_unit, most_for}

-- the most nodes of a graph of the item, if there is one
abbrev pub most_in : Shape → List Held → Option Item → ℕ
most_in y graphs None = 0
most_in y graphs (Some (item.Run op file)) = most_for y graphs op file
most_in y graphs (Some (item.Fail column)) = 0

-- The events of an item whose graphs have at most m nodes, where n columns may fail: it begins, takes its stripes, and each node is fired and ends; and each failure may have it planned anew.
abbrev pub item_events : ℕ → ℕ → ℕ
item_events n m = 2 * m + 2 + n * (2 * m + 1)

-- those of these items
abbrev pub row_events : Shape → List Held → ℕ → List Item → ℕ
row_events y graphs n items = below (λ i. item_events n (most_in y graphs (slice_get items i))) (length items)

-- those of all items, and the failure of each column that isn't dead
abbrev pub opening_events : Shape → List Held → List ColumnState → List ItemList → ℕ
opening_events y graphs columns given = below (λ c. row_events y graphs (alive columns) (items_at given c)) 16 + alive columns

-- the trace, if it is kept, has room for them
abbrev pub FitsTrace : {L D : Type 0} → LayoutGhosts L → Setup L D → Type 0
FitsTrace lay setup = setup.trace ≡ true → opening_events (lay.shape setup.layout) setup.graphs.items (states_of (lay.shape setup.layout) setup.columns.items) setup.clients.items ≤ 1048576 + 2 + (lay.shape setup.layout).columns

-- those of so many rebuilds, each an operation over one stripe
abbrev pub rebuild_events : Shape → ℕ → ℕ → ℕ
rebuild_events y n rebuilds = below (λ s. item_events n (most_for_unit y)) rebuilds

-- at most so many of the column's stripes aren't done
abbrev pub HasAtMost : Shape → List ColumnState → ℕ → ℕ → Type 0
HasAtMost y cols column n = (stripes : List ℕ) → IsStrictlyIncreasing stripes → ((s : ℕ) → Contains stripes s → IsLeft y cols column s) → length stripes ≤ n

-- no more rebuilds are begun where so many are asked: no more are, or no more are left
abbrev pub BeginsAtMost : Shape → List ColumnState → ℕ → ℕ → ℕ → Type 0
BeginsAtMost y cols column asked n = (asked ≤ n) ⊎ HasAtMost y cols column n

-- A core that has begun no operation has room for a rebuild of a column, of which so many stripes are asked and that begins with these columns: its trace, if it is kept, for the start, for all events of all items and rebuilds, and for the columns that may fail; its history for one operation more for each stripe; and client 16 has a region for each.
pub record FitsRebuild {L D : Type 0} (lay : LayoutGhosts L) (core : Array L D) (cols : List ColumnState) (column asked : ℕ) : Type 0 where
  pub trace : core.log.keeps ≡ true → (rebuilds : ℕ) × BeginsAtMost (lay.shape core.layout) cols column asked rebuilds
      × (length core.log.trace + 1 + below (λ c. row_events (lay.shape core.layout) core.graphs.items (alive cols) (desk_at core.clients c).items) 16 + rebuild_events (lay.shape core.layout) (alive cols) rebuilds + alive cols ≤ core.log.trace_room)
  pub history : below (λ c. length (desk_at core.clients c).items) 16 + (lay.shape core.layout).stripes ≤ core.log.history_room
  pub regions : (lay.shape core.layout).stripes ≤ length (slice_index_or core.log.handed.regions 16 [])

-- the trace of an opening, if it is kept, has room for a rebuild of this column too, of which so many stripes are asked and that begins with these columns
abbrev pub FitsRebuilding : {L D : Type 0} → LayoutGhosts L → Setup L D → List ColumnState → ℕ → ℕ → Type 0
FitsRebuilding lay setup cols column asked = setup.trace ≡ true → (rebuilds : ℕ) × BeginsAtMost (lay.shape setup.layout) cols column asked rebuilds
    × (1 + below (λ c. row_events (lay.shape setup.layout) setup.graphs.items (alive cols) (items_at setup.clients.items c)) 16 + rebuild_events (lay.shape setup.layout) (alive cols) rebuilds + alive cols ≤ 1048576 + 2 + (lay.shape setup.layout).columns)

-- ## By one number for all items

-- how many events are counted for items, where there are so many devices: for each item four, and two for each node that a graph of it may have, once more for each device
abbrev pub counted_events : Shape → List Held → ℕ → List Item → ℕ
counted_events y graphs devices items = below (λ i. (2 * most_in y graphs (slice_get items i) + 4) * (1 + devices)) (length items)

-- those of all items
abbrev pub trace_sum : Shape → List Held → ℕ → List ItemList → ℕ
trace_sum y graphs devices given = below (λ c. counted_events y graphs devices (items_at given c)) 16

-- those of so many rebuilds
abbrev pub rebuilds_sum : Shape → ℕ → ℕ → ℕ
rebuilds_sum y devices rebuilds = rebuilds * ((2 * most_for_unit y + 4) * (1 + devices))
