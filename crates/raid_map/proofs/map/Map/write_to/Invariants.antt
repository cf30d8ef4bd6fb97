use Rattle.std.proofs.Common.{◌≡◌, ◌<◌, ℕ, length}
use Rattle.std.specs.Prelude.{slice_index}
use Rattle.raid_map.specs.Regions.{byte_of}
use Rattle.raid_map.proofs.map.Map.write_to.Given as goal

abbrev pub invariant-loop-k : goal.invariant-loop-k
invariant-loop-k l = ((j : ℕ) → j < l.k → slice_index l.sector j ≡ byte_of l.self j) × (length l.sector ≡ 512)
