use Rattle.std.proofs.Common.{◌≡◌, ◌*◌, length}
use Rattle.raid_recon.specs.Ahead.{AreHands}
use Rattle.raid_recon.specs.Array.{IsJudge}
use Rattle.raid_recon.proofs.Logs.{IsSweeping}
use Rattle.raid_recon.proofs.sweep.sweep_stripes.Given as goal

-- the stripes so far were swept, and the judge has the columns that are left
abbrev pub invariant-loop-stripe : goal.invariant-loop-stripe
invariant-loop-stripe g l = record {
  sweeping : IsSweeping g.D.Disk l.kind (g.L.Layout.shape l.layout) l.windows l.stripe l.fn.columns l.columns l.fn.devices l.devices l.counted l.hands l.ahead;
  judge : IsJudge (g.L.Layout.shape l.layout) l.columns l.judge;
  hands : AreHands l.windows.most l.hands;
  long : length l.ahead ≡ length l.fn.ahead;
  sum : length l.sum ≡ 512 * (g.L.Layout.shape l.layout).unit_sectors;
}
