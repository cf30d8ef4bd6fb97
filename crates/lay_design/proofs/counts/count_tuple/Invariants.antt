use Rattle.std.proofs.Common.{◌≡◌, ℕ, ◌<◌, ◌+◌, ◌*◌, length, take}
use Rattle.lay_design.specs.Blocks.{entry, times}
use Rattle.lay_design.proofs.counts.count_tuple.Given as goal

abbrev pub invariant-loop-x : goal.invariant-loop-x
invariant-loop-x l = record {
  long : length l.counts ≡ 1024;
  counted : (x y : ℕ) → x < 32 → y < 32 → entry l.counts x y ≡ entry l.fn.counts x y + times x (take l.x-index l.objects) * times y l.objects;
}
