use Rattle.std.proofs.Common.{◌≡◌, ◌⊎◌, List, ℕ, sym, subst, rules}
use Rattle.blk_disk.specs.Disk.{sector_at}
use Rattle.blk_disk.proofs.Stopping.{put_one}
use Rattle.blk_disk.proofs.stop.put_if.Goals as goal

pub returns-then-kept-clause-image : goal.returns-then-kept-clause-image
returns-then-kept-clause-image c = λ n.
    subst (λ (b : List ℕ). (sector_at b n ≡ sector_at c.args.bytes.now n) ⊎ ((n ≡ c.args.entry.now.sector) × (sector_at b n ≡ c.args.entry.now.bytes))) (sym c.put_at.ensures)
    (put_one c.args.bytes.now c.args.entry.now.bytes c.args.entry.now.sector n (search rules) c.requires)
