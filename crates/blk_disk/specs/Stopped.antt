-- The bytes of a device after a stop.
use Rattle.std.specs.Prelude.{◌≡◌, ◌⊎◌, Contains, ℕ, zero, suc, List, Bool, true, false, Option, Some, None, slice_get}
use Rattle.blk_disk.specs.declared.disk.Logged.{Logged}
use Rattle.blk_disk.specs.Disk.{sector_at}
use Rattle.blk_disk.specs.Sectors.{put}

-- bytes with a sector in the place of what was there, if it is kept
abbrev pub put_kept : List ℕ → Option Bool → Option Logged → List ℕ
put_kept bytes (Some true) (Some entry) = put bytes entry.sector entry.bytes
put_kept bytes (Some false) (Some entry) = bytes
put_kept bytes (Some k) None = bytes
put_kept bytes None entry = bytes

-- bytes with those of the first n logged sectors that are kept, in their order
unfoldable pub stopped : List ℕ → List Bool → List Logged → ℕ → List ℕ
stopped bytes keep logged zero = bytes
stopped bytes keep logged (suc n) = put_kept (stopped bytes keep logged n) (slice_get keep n) (slice_get logged n)

-- what sector n of these bytes holds, or what one of the logged writes of it wrote
abbrev pub IsOneOf : List ℕ → List Logged → ℕ → List ℕ → Type 0
IsOneOf bytes logged n held = (held ≡ sector_at bytes n) ⊎ Contains logged (record { sector = n; bytes = held })
