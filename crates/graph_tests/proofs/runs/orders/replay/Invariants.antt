use Rattle.std.proofs.Common.{◌≡◌}
use Rattle.graph_tests.proofs.runs.orders.replay.Given as goal

abbrev pub invariant-loop-node : goal.invariant-loop-node
invariant-loop-node l = l.run.graph ≡ l.graph.drawn
