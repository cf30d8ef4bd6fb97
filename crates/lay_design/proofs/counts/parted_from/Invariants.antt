use Rattle.std.proofs.Common.{◌≡◌, ℕ, ◌<◌, ◌==◌, ◌&&◌, false, not, nat_lt}
use Rattle.lay_design.specs.Blocks.{entry}
use Rattle.lay_design.proofs.counts.parted_from.Given as goal

-- no object so far is one
abbrev pub invariant-loop-y : goal.invariant-loop-y
invariant-loop-y l = (z : ℕ) → z < l.y → (nat_lt l.x z && not (entry l.counts l.x z == l.lambda)) ≡ false
