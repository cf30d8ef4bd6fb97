use Rattle.std.proofs.Common.{◌≡◌, length}
use Rattle.lay_decluster.specs.Offsets.{AreOffsets, AreCounts}
use Rattle.lay_decluster.proofs.offsets.offsets_of.Given as goal

abbrev pub invariant-loop-tuple : goal.invariant-loop-tuple
invariant-loop-tuple l = record {
  offsets : AreOffsets l.design l.tuple l.offsets.items;
  counts : AreCounts l.design l.tuple l.counts;
  long : length l.counts ≡ 32;
}
