use Rattle.std.proofs.Common.{◌≡◌, None}
use Rattle.eng_cols.specs.Lost.{first_missing}
use Rattle.eng_plan.proofs.planning.find_missing.Given as goal

abbrev pub invariant-loop-unit : goal.invariant-loop-unit
invariant-loop-unit g l = first_missing (g.L.Layout.shape l.layout) l.cols.states l.stripe l.unit ≡ None
