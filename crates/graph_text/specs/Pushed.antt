-- A graph as it grows by whole nodes.
use Rattle.std.specs.Prelude.{ℕ, ◌-◌, List, [], ◌∷◌, ◌++◌, take, length}
use Rattle.graph_mean.specs.Graph.{Held, Vertex, last_vertex}

-- the graph with one node more
abbrev pub with_vertex : Held → Vertex → Held
with_vertex h v = record h { drawn = record h.drawn { nodes = h.drawn.nodes ++ v ∷ [] } }

-- the graph with this node in place of its last
abbrev pub with_last : Held → Vertex → Held
with_last h v = record h { drawn = record h.drawn { nodes = take (length h.drawn.nodes - 1) h.drawn.nodes ++ v ∷ [] } }

-- the graph with these sources behind those of its last node
unfoldable pub with_sources : Held → List ℕ → Held
with_sources h ns = let v = last_vertex h.drawn in with_last h (record v { sources = v.sources ++ ns })

-- the graph with these antecedents behind those of its last node
unfoldable pub with_antes : Held → List ℕ → Held
with_antes h ns = let v = last_vertex h.drawn in with_last h (record v { antes = v.antes ++ ns })
