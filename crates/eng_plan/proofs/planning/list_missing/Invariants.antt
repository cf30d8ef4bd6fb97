use Rattle.std.proofs.Common.{◌≡◌, ◌≤◌, map, take}
use Rattle.std.specs.Prelude.{vec_capacity}
use Rattle.eng_world.specs.Planning.{missing_for}
use Rattle.eng_plan.proofs.planning.list_missing.Given as goal

abbrev pub invariant-loop-stripe : goal.invariant-loop-stripe
invariant-loop-stripe g l = record {
  items : l.missing.items ≡ map (missing_for (g.L.Layout.shape l.layout) l.cols.states l.op) (take l.stripe-index l.stripes);
  room : vec_capacity l.fn.missing ≤ vec_capacity l.missing;
}
