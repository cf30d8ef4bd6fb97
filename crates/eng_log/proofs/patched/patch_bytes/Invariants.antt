use Rattle.std.proofs.Common.{◌≡◌, ◌<◌, ◌+◌, ℕ}
use Rattle.blk_disk.specs.Disk.{sector_at}
use Rattle.blk_plain.specs.Plain.{used_of, patched_sector, zero_sector}
use Rattle.eng_log.proofs.patched.patch_bytes.Given as goal

-- so many sectors are those that are written
abbrev pub invariant-loop-j : goal.invariant-loop-j
invariant-loop-j l = record { done : (j : ℕ) → j < l.j → sector_at l.bytes j ≡ patched_sector (used_of l.patches) (l.first + j) zero_sector }
