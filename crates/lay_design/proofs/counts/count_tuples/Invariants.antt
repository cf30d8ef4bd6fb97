use Rattle.std.proofs.Common.{◌≡◌, ℕ, ◌<◌, length}
use Rattle.lay_design.specs.Blocks.{entry, together}
use Rattle.lay_design.proofs.counts.count_tuples.Given as goal

abbrev pub invariant-loop-number : goal.invariant-loop-number
invariant-loop-number l = record {
  long : length l.counts ≡ 1024;
  counted : (x y : ℕ) → x < 32 → y < 32 → entry l.counts x y ≡ together l.number l.tuples.width l.tuples.objects.now x y;
}
