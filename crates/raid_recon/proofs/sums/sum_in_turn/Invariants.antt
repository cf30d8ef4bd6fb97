use Rattle.std.proofs.Common.{◌≡◌, ◌≤◌, ◌*◌, ℕ, length}
use Rattle.blk_disk.specs.Devices.{Changes, contents_of}
use Rattle.raid_recon.specs.declared.ahead.Rows.{Rows}
use Rattle.raid_recon.specs.Ahead.{AreHands}
use Rattle.raid_recon.specs.Units.{IsAhead, IsSum, AllRead}
use Rattle.raid_recon.proofs.sums.sum_in_turn.Given as goal

-- the units so far were read, and this is their sum
abbrev pub invariant-loop-i : goal.invariant-loop-i
invariant-loop-i g l = record {
  read : (rows : ℕ → Rows) → IsAhead g.D.Disk (g.L.Layout.shape l.layout) l.windows l.cols.states l.stripe rows l.fn.devices l.fn.hands l.fn.ahead → AllRead g.D.Disk (g.L.Layout.shape l.layout) l.windows l.cols.states l.stripe l.i rows l.fn.devices l.devices l.hands l.ahead;
  sum : (rows : ℕ → Rows) → IsAhead g.D.Disk (g.L.Layout.shape l.layout) l.windows l.cols.states l.stripe rows l.fn.devices l.fn.hands l.fn.ahead → g.D.Disk.tells → IsSum (g.L.Layout.shape l.layout) (contents_of g.D.Disk l.fn.devices) l.cols.states l.stripe l.i l.sum;
  same : Changes g.D.Disk (λ d n. ⊥) l.fn.devices l.devices;
  hands : AreHands l.windows.most l.hands;
  long : length l.ahead ≡ length l.fn.ahead;
  whole : length l.sum ≡ 512 * (g.L.Layout.shape l.layout).unit_sectors;
  some : 1 ≤ l.i;
}
