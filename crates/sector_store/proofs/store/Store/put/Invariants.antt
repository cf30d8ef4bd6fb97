use Rattle.std.proofs.Common.{◌≡◌, ◌*◌, length, take}
use Rattle.blk_disk.specs.Sectors.{put}
use Rattle.sector_store.proofs.store.Store.put.Given as goal

-- the sectors so far are put
abbrev pub invariant-loop-i : goal.invariant-loop-i
invariant-loop-i l = record {
  now : l.self ≡ put l.fn.self l.first (take (512 * l.i) l.from);
  long : length l.self ≡ length l.fn.self;
}
