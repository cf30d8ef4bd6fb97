use Rattle.std.proofs.Common.{◌≡◌, ◌<◌, ◌+◌, ◌*◌, ℕ, length, get_or}
use Rattle.lay_decluster.specs.Offsets.{offset}
use Rattle.lay_decluster.proofs.offsets.push_counts.Given as goal

-- the offsets of the earlier tuples are there, and of this one those of the positions so far
abbrev pub invariant-loop-position : goal.invariant-loop-position
invariant-loop-position l = record {
  long : length l.offsets.items ≡ l.tuple * l.design.k + l.position;
  before : (t p : ℕ) → t < l.tuple → p < l.design.k → get_or l.offsets.items (t * l.design.k + p) 0 ≡ offset l.design t p;
  these : (p : ℕ) → p < l.position → get_or l.offsets.items (l.tuple * l.design.k + p) 0 ≡ offset l.design l.tuple p;
}
