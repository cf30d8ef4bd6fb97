use Rattle.std.proofs.Common.{◌≡◌, ◌≤◌, ◌<◌, ℕ, length}
use Rattle.std.specs.Prelude.{slice_index}
use Rattle.raid_recon.specs.Sums.{places_sum}
use Rattle.raid_recon.proofs.adding.sum_places.Given as goal

-- the bytes are the sum of those of the places so far
abbrev pub invariant-loop-i : goal.invariant-loop-i
invariant-loop-i l = record {
  sums : (j : ℕ) → j < length l.sum → slice_index l.sum j ≡ places_sum l.ahead l.places l.i j;
  long : length l.sum ≡ length l.fn.sum;
  within : l.i ≤ l.count;
}
