use Rattle.std.proofs.Common.{◌≡◌, ◌↔◌, ℕ, ◌<◌, bit_xor, length, slice_index, IsTrue}
use Rattle.raid_recon.proofs.adding.sum_and_compare.Given as goal

-- so many bytes are summed, and it tells whether these are those of the check
abbrev pub invariant-loop-k : goal.invariant-loop-k
invariant-loop-k l = record {
  long : length l.to ≡ length l.fn.to;
  sum : (k : ℕ) → k < l.k → slice_index l.to k ≡ bit_xor (slice_index l.four k) (bit_xor (slice_index l.three k) (bit_xor (slice_index l.two k) (slice_index l.one k)));
  equal : IsTrue l.equal ↔ ((j : ℕ) → j < l.k → bit_xor (slice_index l.four j) (bit_xor (slice_index l.three j) (bit_xor (slice_index l.two j) (slice_index l.one j))) ≡ slice_index l.check j);
}
