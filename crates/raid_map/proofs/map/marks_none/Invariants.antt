use Rattle.std.proofs.Common.{◌≡◌, ◌<◌, ◌≤◌, ℕ, false}
use Rattle.std.specs.Prelude.{slice_index}
use Rattle.raid_map.specs.Regions.{bit_at}
use Rattle.raid_map.proofs.map.marks_none.Given as goal

abbrev pub invariant-loop-region : goal.invariant-loop-region
invariant-loop-region l = (r : ℕ) → l.from ≤ r → r < l.region → bit_at (slice_index l.sector) r ≡ false
