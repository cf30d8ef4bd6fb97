use Rattle.std.proofs.Common.{◌∙◌, ap, List, ℕ, length}
use Rattle.blk_disk.specs.Disk.{sector_at}
use Rattle.blk_disk.specs.Sectors.{sector_at-part}
use Rattle.blk_disk.proofs.stop.MemStopDisk.read.Goals as goal

pub returns-clause-bytes : goal.returns-clause-bytes
returns-clause-bytes c = λ k h. ap (λ (l : List ℕ). sector_at l k) (rw c.deref.ensures.value at c.get_at.ensures) ∙ sector_at-part c.args.self.now.bytes.items c.args.first (length c.args.into.now) k h
