use Rattle.std.proofs.Common.{◌≡◌, ◌<◌, ◌≤◌, ◌-◌, ℕ, List, length}
use Rattle.blk_disk.specs.Disk.{sector_at}
use Rattle.eng_log.proofs.fill.spread.Given as goal

-- so many sectors are what those at the front are
abbrev pub invariant-loop-done : goal.invariant-loop-done
invariant-loop-done l = record {
  some : 1 ≤ l.done;
  long : length l.bytes ≡ length l.fn.bytes;
  same : (sector : List ℕ) → ((j : ℕ) → j < l.front → sector_at l.fn.bytes j ≡ sector) → (j : ℕ) → j < l.done → sector_at l.bytes j ≡ sector;
}

abbrev pub decreases-loop-done : goal.decreases-loop-done
decreases-loop-done l = l.count - l.done
