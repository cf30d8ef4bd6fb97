use Rattle.std.proofs.Common.{◌≡◌, ℕ, ◌<◌, false}
use Rattle.lay_design.specs.Blocks.{is_outside}
use Rattle.lay_design.proofs.places.outside_in.Given as goal

-- no place so far has one
abbrev pub invariant-loop-place : goal.invariant-loop-place
invariant-loop-place l = (j : ℕ) → j < l.place → is_outside l.v l.objects j ≡ false
