use Rattle.graph_check.specs.Samples.{HasRoom}
use Rattle.graph_tests.proofs.checker.drawing.draw.Given as goal

-- the room stays
abbrev pub invariant-loop-buf : goal.invariant-loop-buf
invariant-loop-buf g l = HasRoom l.graph

-- the room stays
abbrev pub invariant-loop-node : goal.invariant-loop-node
invariant-loop-node g l = HasRoom l.graph

-- the room stays
abbrev pub invariant-loop-ret : goal.invariant-loop-ret
invariant-loop-ret g l = HasRoom l.graph
