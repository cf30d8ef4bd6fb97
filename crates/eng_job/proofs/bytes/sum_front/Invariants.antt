use Rattle.std.proofs.Common.{◌≡◌, ℕ, ◌<◌, ◌*◌, take, drop, slice_index}
use Rattle.eng_job.specs.Performed.{sum_at}
use Rattle.eng_job.proofs.bytes.sum_front.Given as goal

-- the target is the sum of the sources so far, and as it was behind it
abbrev pub invariant-loop-i : goal.invariant-loop-i
invariant-loop-i l = ((k : ℕ) → k < 512 * l.count → slice_index l.to k ≡ sum_at (take l.i l.from) k) × (drop (512 * l.count) l.to ≡ drop (512 * l.count) l.fn.to)
