use Rattle.std.proofs.Common.{◌-◌, ◌++◌, ◌∷◌, [], ap, arith, length, length-append}
use Rattle.std.proofs.lemmas.List.Sums.{sum_by-set}
use Rattle.graph_mean.specs.Graph.{Held, Vertex, edges_at, edge_count, last_vertex}
use Rattle.bench.proofs.drawing.follow.Goals as goal
use Rattle.graph_mean.proofs.Words.{no_vertex}

pub returns-clause-edges : goal.returns-clause-edges
returns-clause-edges c =
    let g = c.args.graph.now.drawn in
    let old : Vertex = last_vertex g in
    let new : Vertex = record old { antes = old.antes ++ c.args.node ∷ [] } in
    let is = ap (λ (h : Held). edge_count h.drawn) c.push_ante.ensures in
    let set = sum_by-set edges_at g.nodes (length g.nodes - 1) new no_vertex (omega (arith, c.requires.some)) in
    let one = length-append old.antes (c.args.node ∷ []) in
    omega (arith, is, set, one)
