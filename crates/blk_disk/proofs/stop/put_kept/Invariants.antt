use Rattle.std.proofs.Common.{◌≡◌, ℕ, length}
use Rattle.blk_disk.specs.Disk.{sector_at}
use Rattle.blk_disk.specs.Stopped.{stopped, IsOneOf}
use Rattle.blk_disk.proofs.stop.put_kept.Given as goal

abbrev pub invariant-loop-i : goal.invariant-loop-i
invariant-loop-i l =
    (l.bytes ≡ stopped l.fn.bytes l.keep l.logged l.i)
    × (length l.bytes ≡ length l.fn.bytes)
    × ((n : ℕ) → IsOneOf l.fn.bytes l.logged n (sector_at l.bytes n))
