-- How many events a trace may come to: a bound for each item, and the sum of these.
use Rattle.std.specs.Prelude.{ℕ, ◌+◌, ◌*◌, ◌++◌, List, length, map, Option, if◌then◌else◌, nat_lt, slice_get, sum_by}
use Rattle.std.specs.List.{list_any}
use Rattle.std.specs.Option.{option_map_or}
use Rattle.blk_plain.specs.declared.op.Span.{Span}
use Rattle.blk_plain.specs.Plain.{is_in_some}
use Rattle.lay_core.specs.Layout.{Shape, data_units, blocks_in}
use Rattle.lay_core.specs.Touched.{stripe_count, stripes_among}
use Rattle.graph_mean.specs.Graph.{Held, View}
use Rattle.graph_text.specs.Format.{Named}
use Rattle.raid_script.specs.Asked.{Asked, IsAsked, Writes, WritesAll, Reads, Syncs, Fails, Other}

-- an item that may stand in a script
abbrev pub MayBeAsked : Asked → Type 0
MayBeAsked a = (columns : ℕ) × (graphs : ℕ) × IsAsked columns graphs a

-- ---- nodes

-- the library's graph of a write or read of a span: none where a block of it is past the end, and else 2d + 1 nodes for each stripe that it touches and for two more, and two
unfoldable pub span_nodes : Shape → Span → ℕ
span_nodes y span = if nat_lt (blocks_in y) (span.first + span.count) then 0 else (2 * data_units y + 1) * (stripe_count y span + 2) + 2

-- and of a write of several spans: none where a block of one of them is past the end, and else 2d + 1 nodes for each stripe that they touch together and for two more for each span, and two
unfoldable pub spans_nodes : Shape → List Span → ℕ
spans_nodes y spans = if list_any (λ s. nat_lt (blocks_in y) (s.first + s.count)) spans then 0 else (2 * data_units y + 1) * (stripes_among y (is_in_some spans) + 2 * length spans) + 2

-- the graphs that items name: those of the file, and behind them those that are joined of two
abbrev pub graphs_in : List Named → List Held → List View
graphs_in book joined = map (λ n. n.graph) book ++ map (λ g. g.drawn) joined

-- the graph that is named, if one is, with no node where there is none of that number; else the library's, which has so many
abbrev pub nodes_by : List View → Option ℕ → ℕ → ℕ
nodes_by graphs graph own = option_map_or (λ n. option_map_or (λ (g : View). length g.nodes) (slice_get graphs n) 0) graph own

-- an item's graph: that of a sync, or of a rebuild, which no script asks for, has a node for each unit of a stripe, and three
abbrev pub item_nodes : Shape → List View → Asked → ℕ
item_nodes y graphs (Writes first count bytes graph) = nodes_by graphs graph (span_nodes y (record { first = first; count = count }))
item_nodes y graphs (WritesAll patches graph) = nodes_by graphs graph (spans_nodes y (map (λ p. p.span) patches))
item_nodes y graphs (Reads first count graph) = nodes_by graphs graph (span_nodes y (record { first = first; count = count }))
item_nodes y graphs (Syncs stripe) = y.width + 3
item_nodes y graphs (Fails column) = 0
item_nodes y graphs Other = y.width + 3

-- ---- events

-- An item is begun and its stripes are taken, and each node is fired and ends, once and then once more for each device that may fail meanwhile. That is counted a little too high.
abbrev pub item_bound : ℕ → ℕ → ℕ
item_bound devices nodes = (2 * nodes + 4) * (1 + devices)

abbrev pub row_sum : Shape → List View → ℕ → List Asked → ℕ
row_sum y graphs devices items = sum_by (λ i. item_bound devices (item_nodes y graphs i)) items

-- the sum over the items of all clients, for so many devices, columns and spares
unfoldable pub trace_sum : Shape → List View → ℕ → List (List Asked) → ℕ
trace_sum y graphs devices clients =
    sum_by (λ items. sum_by (λ i. item_bound devices (item_nodes y graphs i)) items) clients
