use Rattle.std.proofs.Common.{◌≡◌, ◌≤◌}
use Rattle.raid_recon.specs.Array.{IsJudge}
use Rattle.raid_map.specs.Sweeping.{marks_stripe, IsCountedTo}
use Rattle.raid_map.proofs.SweepOn.{HeldTo, SweptTo}
use Rattle.raid_map.proofs.SweepCalls.{CalledTo}
use Rattle.raid_map.proofs.sweeping.sweep_marked.Given as goal

-- the stripes so far were swept, by these calls, and the judge has the columns that are left
abbrev pub invariant-loop-stripe : goal.invariant-loop-stripe
invariant-loop-stripe g l =
    SweptTo g.D.Disk (g.L.Layout.shape l.layout) (marks_stripe l.map) l.fn.columns l.fn.devices l.stripe l.columns l.devices
    × (l.count ≤ l.stripe) × (l.room-inside.room ≡ l.fn.room)
    × IsCountedTo g.D.Disk (g.L.Layout.shape l.layout) (marks_stripe l.map) l.fn.columns l.fn.devices l.stripe l.columns l.count
    × IsJudge (g.L.Layout.shape l.layout) l.columns l.judge
    × CalledTo g.D.Disk (g.L.Layout.shape l.layout) (marks_stripe l.map) l.fn.columns l.columns l.fn.devices l.devices
    × HeldTo g.D.Disk (g.L.Layout.shape l.layout) l.fn.columns l.fn.devices l.columns l.devices
