use Rattle.std.proofs.Common.{◌≡◌, ℕ, ◌+◌, ◌<◌}
use Rattle.blk_disk.specs.Disk.{sector_at}
use Rattle.raid_script.proofs.runs.stored_run.Given as goal

-- each sector so far is the first one
abbrev pub invariant-loop-at : goal.invariant-loop-at
invariant-loop-at l = (k : ℕ) → l.from + k < l.at → sector_at l.sectors (l.from + k) ≡ sector_at l.sectors l.from
