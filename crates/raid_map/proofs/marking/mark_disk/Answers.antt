use Rattle.std.proofs.Common.{◌∙◌, is_ok, subst, arith}
use Rattle.blk_disk.specs.Stops.{LeftSettles}
use Rattle.raid_map.proofs.MarkOne.{sector_all, settles_left}
use Rattle.raid_map.proofs.marking.mark_disk.Goals as goal

pub returns-in-Ok-settle-clause-safe : goal.returns-in-Ok-settle-clause-safe
returns-in-Ok-settle-clause-safe g c = λ same. record {
  held = λ told. c.settle.ensures.same told 1 ∙ c.in-Ok.ensures.bytes told 0 (let l = c.requires.long in omega (arith, l)) ∙ sector_all c.args.sector.now c.requires.long;
  left = λ l is. settles_left _ _ (g.D.Disk.sector c.settle.new.self) (subst (λ r. LeftSettles (g.D.Disk.left c.write.new.self) (g.D.Disk.left c.settle.new.self) (g.D.Disk.sector c.settle.new.self) (is_ok r)) c.in-Ok-settle.is c.settle.ensures.left) l is;
}
