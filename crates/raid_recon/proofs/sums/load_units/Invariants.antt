use Rattle.std.proofs.Common.{◌≡◌, ◌≤◌, ◌<◌, ◌+◌, ◌*◌, ℕ, length}
use Rattle.std.specs.Prelude.{slice_index}
use Rattle.blk_disk.specs.Devices.{Changes, contents_of}
use Rattle.raid_recon.specs.declared.ahead.Rows.{Rows}
use Rattle.raid_recon.specs.Ahead.{AreHands}
use Rattle.raid_recon.specs.Units.{IsAhead, AllRead, AreUnitsAt}
use Rattle.raid_recon.proofs.Placed.{AreInWindows}
use Rattle.raid_recon.proofs.sums.load_units.Given as goal

-- the units so far were read, and each stands at its place in the window of its column
abbrev pub invariant-loop-i : goal.invariant-loop-i
invariant-loop-i g l = record {
  read : (rows : ℕ → Rows) → IsAhead g.D.Disk (g.L.Layout.shape l.layout) l.windows l.cols.states l.stripe rows l.fn.devices l.fn.hands l.fn.ahead → AllRead g.D.Disk (g.L.Layout.shape l.layout) l.windows l.cols.states l.stripe l.i rows l.fn.devices l.devices l.hands l.ahead;
  units : (rows : ℕ → Rows) → IsAhead g.D.Disk (g.L.Layout.shape l.layout) l.windows l.cols.states l.stripe rows l.fn.devices l.fn.hands l.fn.ahead → g.D.Disk.tells → AreUnitsAt (g.L.Layout.shape l.layout) (contents_of g.D.Disk l.fn.devices) l.cols.states l.stripe l.i l.ahead l.places;
  windows : AreInWindows (g.L.Layout.shape l.layout) l.windows l.cols.states l.stripe l.i l.places;
  inside : (i : ℕ) → i < l.i → slice_index l.places i + 512 * (g.L.Layout.shape l.layout).unit_sectors ≤ length l.ahead;
  same : Changes g.D.Disk (λ d n. ⊥) l.fn.devices l.devices;
  hands : AreHands l.windows.most l.hands;
  long : length l.ahead ≡ length l.fn.ahead;
  whole : length l.places ≡ 32;
}
