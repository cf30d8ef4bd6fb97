use Rattle.graph_merge.specs.Form.{IsRoomy}
use Rattle.reach_tests.proofs.joined.refused.a_graph_without_form_is_not_joined.Given as goal

abbrev pub invariant-loop-row : goal.invariant-loop-row
invariant-loop-row g l = IsRoomy l.out
