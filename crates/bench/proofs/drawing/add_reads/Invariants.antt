use Rattle.std.proofs.Common.{◌≡◌, ◌+◌, length}
use Rattle.graph_mean.specs.Graph.{edge_count}
use Rattle.bench.proofs.drawing.add_reads.Given as goal

abbrev pub invariant-loop : goal.invariant-loop
invariant-loop l = record {
  nodes : length l.graph.drawn.nodes ≡ length l.fn.graph.drawn.nodes + l.counter;
  edges : edge_count l.graph.drawn ≡ edge_count l.fn.graph.drawn;
  room : (l.graph.node_room ≡ l.fn.graph.node_room) × (l.graph.edge_room ≡ l.fn.graph.edge_room);
}
