use Rattle.graph_merge.specs.Form.{IsRoomy}
use Rattle.reach_tests.proofs.joined.refused.a_cause_is_found_at_its_moved_place.Given as goal

abbrev pub invariant-loop-row : goal.invariant-loop-row
invariant-loop-row g l = IsRoomy l.out
