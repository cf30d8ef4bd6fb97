use Rattle.std.proofs.Common.{◌≡◌, ◌<◌, ◌+◌, ◌==◌, ℕ, length, get_or}
use Rattle.lay_design.specs.Counting.{count_below}
use Rattle.lay_design.specs.Blocks.{object}
use Rattle.lay_decluster.proofs.offsets.count_tuple.Given as goal

-- the objects at the positions so far are counted
abbrev pub invariant-loop-position : goal.invariant-loop-position
invariant-loop-position l = record {
  long : length l.counts ≡ 32;
  counted : (x : ℕ) → x < l.design.v → get_or l.counts x 0 ≡ get_or l.fn.counts x 0 + count_below (λ p. object l.design.k l.design.objects l.tuple p == x) l.position;
}
