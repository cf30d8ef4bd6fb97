-- What a stop may leave of the devices behind a sweep of marked stripes, where a run starts.
use Rattle.std.specs.Prelude.{◌≡◌, ◌⊎◌, ℕ, List, Contains, Option, Some, slice_index}
use Rattle.blk_disk.specs.declared.disk.Disk.{Ghosts}
use Rattle.blk_disk.specs.declared.disk.Logged as disk
use Rattle.blk_disk.specs.Devices.{device_at}
use Rattle.blk_disk.specs.Stops.{Left}
use Rattle.raid_map.specs.Stops.{Logged, Stored}

-- the device had logged sector n
abbrev pub HadLogged : Left → ℕ → Type 0
HadLogged left n = (e : disk.Logged) × Contains left.logged e × (e.sector ≡ n)

-- A stop may leave this of device d. As it was held it told what a stop leaves; since then it wasn't settled, and no sector was logged but such as may be.
pub record IsLeftSince {D : Type 0} (g : Ghosts D) (may : ℕ → ℕ → Type 0) (held : List (Option D)) (d : ℕ) (stored : Stored) : Type 0 where
  pub before : D
  pub was : device_at held d ≡ Some before
  pub left : Left
  pub told : g.left before ≡ Some left
  pub settled : (n k : ℕ) → stored.settled n k ≡ slice_index (left.settled n) k
  pub logged : (entry : Logged) → Contains stored.logged entry → HadLogged left entry.sector ⊎ may d entry.sector
