use Rattle.std.proofs.Common.{◌≡◌, length}
use Rattle.raid_map.specs.Marking.{AreMarked}
use Rattle.raid_map.proofs.marking.mark_each.Given as goal

-- the columns so far were marked
abbrev pub invariant-loop-column : goal.invariant-loop-column
invariant-loop-column g l = AreMarked g.D.Disk l.column l.sector l.fn.columns l.columns l.fn.devices l.devices × (length l.columns ≡ length l.fn.columns)
