-- What a core keeps that the world doesn't show: what was asked of its clients, and how those that run were planned.
use Rattle.std.specs.Prelude.{◌≡◌, ◌<◌, ◌≤◌, ◌+◌, ◌*◌, if◌then◌else◌, nat_lt, ℕ, Bool, List, length, Option, Some, None, slice_get, slice_index_or}
use Rattle.std.specs.List.{list_any}
use Rattle.blk_plain.specs.declared.op.Op.{Op}
use Rattle.blk_plain.specs.declared.op.Op.TheVariants.{Write, Writes, Read, Rebuild, Sync}
use Rattle.blk_plain.specs.declared.op.Span.{Span}
use Rattle.blk_plain.specs.Plain.{is_in_some, spans_of}
use Rattle.lay_core.specs.Layout.{Shape, data_units, blocks_in}
use Rattle.lay_core.specs.declared.layout.Layout.{Ghosts as LayoutGhosts}
use Rattle.lay_core.specs.Touched.{stripe_count, stripes_among}
use Rattle.graph_mean.specs.Graph.{Held}
use Rattle.eng_world.specs.declared.item.Item.{Item}
use Rattle.eng_world.specs.declared.item.Item.TheVariants as item
use Rattle.eng_clients.specs.declared.stage.Stage.TheVariants.{Runs}
use Rattle.eng_state.specs.declared.array.Array.{Array}
use Rattle.eng_state.specs.Beginning.{IsAsked}
use Rattle.eng_clients.specs.Desk.{Desk, desk_at, item_at}
use Rattle.eng_plan.specs.Asked.{no_graph, IsOpSplit, lease_for}

-- the graph that an item names is one of the file
abbrev pub IsGraphOf : List Held → Option ℕ → Type 0
IsGraphOf graphs None = Unit {0}
IsGraphOf graphs (Some n) = n < length graphs

abbrev pub NamesGraph : List Held → Item → Type 0
NamesGraph graphs (item.Run op file) = IsGraphOf graphs file
NamesGraph graphs (item.Fail column) = Unit {0}

-- the most nodes of a graph of the library for the blocks of a span: none where it passes the end, since none is drawn then
abbrev pub most_for_span : Shape → Span → ℕ
most_for_span y span = if nat_lt (blocks_in y) (span.first + span.count) then 0 else (2 * data_units y + 1) * (stripe_count y span + 2) + 2

-- one of the spans passes the end
abbrev pub some_passes : Shape → List Span → Bool
some_passes y spans = list_any (λ s. nat_lt (blocks_in y) (s.first + s.count)) spans

-- and for those of the spans of one write
abbrev pub most_for_spans : Shape → List Span → ℕ
most_for_spans y spans = if some_passes y spans then 0 else (2 * data_units y + 1) * (stripes_among y (is_in_some spans) + 2 * length spans) + 2

-- and for a unit of a stripe that is made from the others
abbrev pub most_for_unit : Shape → ℕ
most_for_unit y = y.width + 3

-- and for an operation
abbrev pub most_drawn : Shape → Op → ℕ
most_drawn y (Write span pattern) = most_for_span y span
most_drawn y (Writes patches) = most_for_spans y (spans_of patches)
most_drawn y (Read span) = most_for_span y span
most_drawn y (Rebuild stripe) = most_for_unit y
most_drawn y (Sync stripe) = most_for_unit y

-- the most nodes of a graph for an operation: those of the one of the file, or what the library needs
abbrev pub most_for : Shape → List Held → Op → Option ℕ → ℕ
most_for y graphs op None = most_drawn y op
most_for y graphs op (Some n) = length (slice_index_or graphs n no_graph).drawn.nodes

-- an operation that runs: its stripes are the operation's, so many buffers are leased, and its graph has few nodes
pub record WasPlanned (y : Shape) (graphs : List Held) (d : Desk) (op : Op) (file : Option ℕ) : Type 0 where
  pub split : IsOpSplit y op d.map
  pub lease : length d.lease ≡ lease_for y graphs op file
  pub nodes : length d.run.graph.nodes ≤ most_for y graphs op file

-- each item may be asked and names no graph past those of the file; and what runs was planned
pub record IsServing (y : Shape) (graphs : List Held) (d : Desk) : Type 0 where
  pub asked : (n : ℕ) (i : Item) → slice_get d.items n ≡ Some i → IsAsked y i
  pub named : (n : ℕ) (i : Item) → slice_get d.items n ≡ Some i → NamesGraph graphs i
  pub runs : d.stage ≡ Runs → (op : Op) (file : Option ℕ) → item_at d ≡ Some (item.Run op file) → WasPlanned y graphs d op file

-- so it is of every client
abbrev pub AreServing : {L D : Type 0} → LayoutGhosts L → Array L D → Type 0
AreServing lay core = (c : ℕ) → IsServing (lay.shape core.layout) core.graphs.items (desk_at core.clients c)
