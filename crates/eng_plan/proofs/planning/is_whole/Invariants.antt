use Rattle.std.proofs.Common.{ℕ, ◌<◌}
use Rattle.std.specs.Prelude.{slice_get}
use Rattle.eng_plan.proofs.Lacking.{IsFull}
use Rattle.eng_plan.proofs.planning.is_whole.Given as goal

abbrev pub invariant-loop-column : goal.invariant-loop-column
invariant-loop-column g l = (c : ℕ) → c < l.column → IsFull (slice_get l.cols.states c) l.stripe
