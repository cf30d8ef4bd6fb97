-- Words that proofs go by, for what the specifications spell out.
use Rattle.std.specs.Prelude.{[], None}
use Rattle.graph_mean.specs.declared.graph.Node.TheVariants.{Cmt}
use Rattle.graph_mean.specs.Graph.{Vertex}
use Rattle.graph_mean.specs.declared.graph.Buf.{Buf}

-- what stands at a node's number past the end: a commit that follows nothing
abbrev pub no_vertex : Vertex
no_vertex = record { kind = Cmt; sources = []; antes = [] }

-- what stands at a buffer's number past the end: an empty buffer
abbrev pub no_buf : Buf
no_buf = record { stripe = 0; from = 0; count = 0; new_of = None }
