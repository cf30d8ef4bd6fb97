use Rattle.graph_check.specs.Samples.{HasRoom}
use Rattle.graph_tests.proofs.checker.limits.a_graph_past_a_limit_is_large_before_all_else.Given as goal

-- the room stays
abbrev pub invariant-loop-row : goal.invariant-loop-row
invariant-loop-row g l = HasRoom l.graph
