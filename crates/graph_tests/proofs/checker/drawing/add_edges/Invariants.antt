use Rattle.graph_check.specs.Samples.{HasRoom}
use Rattle.graph_tests.proofs.checker.drawing.add_edges.Given as goal

-- the room stays
abbrev pub invariant-loop-edge : goal.invariant-loop-edge
invariant-loop-edge g l = HasRoom l.graph

-- the room stays
abbrev pub invariant-loop-edge-2 : goal.invariant-loop-edge-2
invariant-loop-edge-2 g l = HasRoom l.graph
