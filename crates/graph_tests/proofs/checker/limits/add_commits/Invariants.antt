use Rattle.graph_check.specs.Samples.{HasRoom}
use Rattle.graph_tests.proofs.checker.limits.add_commits.Given as goal

-- the room stays
abbrev pub invariant-loop : goal.invariant-loop
invariant-loop g l = HasRoom l.graph
