use Rattle.std.proofs.Common.{◌≡◌, ◌<◌, ◌≤◌, ℕ, length}
use Rattle.std.specs.Prelude.{slice_index, ◌||◌}
use Rattle.raid_map.specs.Regions.{bit_at, is_marked}
use Rattle.raid_map.proofs.map.add_bits.Given as goal

abbrev pub invariant-loop-region : goal.invariant-loop-region
invariant-loop-region l =
    (length l.marks ≡ length l.fn.marks)
    × ((r : ℕ) → r < l.region → is_marked l.marks r ≡ (is_marked l.fn.marks r || bit_at (slice_index l.sector) r))
    × ((r : ℕ) → l.region ≤ r → is_marked l.marks r ≡ is_marked l.fn.marks r)
