-- A book as clauses see it, and what its reader has read so far.
use Rattle.std.specs.Prelude.{List, [], ◌∷◌, Option, Some, None}
use Rattle.raid_text.specs.Text.{Text}
use Rattle.graph_mean.specs.Graph.{Held, View}
use Rattle.graph_text.specs.Format.{Named}

-- graphs with their names
unfoldable pub named_graphs : List Text → List Held → List Named
named_graphs [] graphs = []
named_graphs (name ∷ names) [] = []
named_graphs (name ∷ names) (graph ∷ graphs) = record { name = name; graph = graph.drawn } ∷ named_graphs names graphs

-- the graph that goes on, where one was begun
abbrev pub current_of : Option Text → View → Option Named
current_of None graph = None
current_of (Some name) graph = Some (record { name = name; graph = graph })
