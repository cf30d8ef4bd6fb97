use Rattle.std.proofs.Common.{[], ap, arith}
use Rattle.std.proofs.lemmas.List.Sums.{sum_by_push}
use Rattle.graph_mean.specs.Graph.{Held, Vertex, edges_at, edge_count}
use Rattle.bench.proofs.drawing.add.Goals as goal

pub returns-clause-edges : goal.returns-clause-edges
returns-clause-edges c =
    let v : Vertex = record { kind = c.args.node; sources = []; antes = [] } in
    let is = ap (λ (h : Held). edge_count h.drawn) c.push_node.ensures in
    let more = sum_by_push edges_at c.args.graph.now.drawn.nodes v in
    omega (arith, is, more)
