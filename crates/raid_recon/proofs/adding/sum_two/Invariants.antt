use Rattle.std.proofs.Common.{◌≡◌, ℕ, ◌<◌, bit_xor, length, slice_index}
use Rattle.raid_recon.proofs.adding.sum_two.Given as goal

-- so many bytes are summed
abbrev pub invariant-loop-k : goal.invariant-loop-k
invariant-loop-k l = (length l.to ≡ length l.fn.to) × ((k : ℕ) → k < l.k → slice_index l.to k ≡ bit_xor (slice_index l.two k) (slice_index l.one k))
