use Rattle.std.proofs.Common.{◌≡◌, ℕ, ◌<◌, ◌==◌, false, not}
use Rattle.lay_design.specs.Blocks.{entry}
use Rattle.lay_design.proofs.counts.first_stray.Given as goal

-- no object so far is one
abbrev pub invariant-loop-x : goal.invariant-loop-x
invariant-loop-x l = (z : ℕ) → z < l.x → not (entry l.counts z z == l.r) ≡ false
