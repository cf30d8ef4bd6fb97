use Rattle.std.proofs.Common.{◌≡◌, ◌≢◌, ℕ, ◌<◌, ◌+◌, length, take}
use Rattle.lay_design.specs.Blocks.{entry, times}
use Rattle.lay_design.proofs.counts.count_with.Given as goal

abbrev pub invariant-loop-y : goal.invariant-loop-y
invariant-loop-y l = record {
  long : length l.counts ≡ 1024;
  counted : (y : ℕ) → y < 32 → entry l.counts l.x y ≡ entry l.fn.counts l.x y + times y (take l.y-index l.objects);
  others : (z y : ℕ) → z ≢ l.x → y < 32 → entry l.counts z y ≡ entry l.fn.counts z y;
}
