-- Words by which code and proofs go: the nodes of an item's graph, by what the item is, and the events of rebuilds.
use Rattle.std.specs.Prelude.{ℕ, ◌+◌, ◌*◌, List, length, map, Option, slice_get}
use Rattle.std.specs.Option.{option_map_or}
use Rattle.blk_plain.specs.declared.op.Span.{Span}
use Rattle.lay_core.specs.Layout.{Shape}
use Rattle.graph_mean.specs.Graph.{View}
use Rattle.raid_script.specs.Asked.{AskedPatch}
use Rattle.top_bound.specs.Bound.{item_bound, nodes_by, span_nodes, spans_nodes}

-- the graph of this number, if there is one
abbrev pub nodes_in : Option View → ℕ
nodes_in graph = option_map_or (λ (g : View). length g.nodes) graph 0

abbrev pub graph_nodes : List View → ℕ → ℕ
graph_nodes graphs n = nodes_in (slice_get graphs n)

-- the graph of a write or read: the one that is named, or the library's
abbrev pub run_nodes : Shape → List View → Span → Option ℕ → ℕ
run_nodes y graphs span graph = nodes_by graphs graph (span_nodes y span)

-- the graph of a write of several spans
abbrev pub patches_nodes : Shape → List View → List AskedPatch → Option ℕ → ℕ
patches_nodes y graphs patches graph = nodes_by graphs graph (spans_nodes y (map (λ p. p.span) patches))

-- the bound of so many rebuilds, each of which has the graph of one unit, for so many devices
abbrev pub rebuilds_sum : Shape → ℕ → ℕ → ℕ
rebuilds_sum y devices rebuilds = rebuilds * item_bound devices (y.width + 3)
