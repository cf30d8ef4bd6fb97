use Rattle.std.proofs.Common.{◌∙◌, sym, arith}
use Rattle.raid_map.proofs.MarkOne.{sector_all}
use Rattle.raid_map.proofs.ReadOne.{read-adds}
use Rattle.raid_map.proofs.reading.read_disk.Goals as goal

pub returns-in-Ok-clause-adds : goal.returns-in-Ok-clause-adds
returns-in-Ok-clause-adds g c =
    read-adds g.D.Disk.tells c.args.map.now c.add_from.new.self c.read.new.into (g.D.Disk.sector c.args.disk.now 1) c.add_from.result
    (λ told. sym (sector_all c.read.new.into (omega (arith, c.read.auto.into, c.requires.long))) ∙ c.in-Ok.ensures.bytes told 0 (let l = c.requires.long in omega (arith, l)))
    c.add_from.ensures.is_map c.add_from.ensures.added c.add_from.ensures.same
