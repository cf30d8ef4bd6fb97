use Rattle.std.proofs.Common.{◌==◌, ◌&&◌, not, nat_lt}
use Rattle.lay_design.specs.Counting.{IsNowhere}
use Rattle.lay_design.specs.Blocks.{entry}
use Rattle.lay_design.proofs.counts.first_parted.Given as goal

-- no two objects so far are such
abbrev pub invariant-loop-row : goal.invariant-loop-row
invariant-loop-row l = IsNowhere (λ x y. nat_lt x y && not (entry l.counts x y == l.lambda)) l.row l.v
