use Rattle.std.proofs.Common.{sym, subst}
use Rattle.raid_map.specs.Regions.{IsBytesOf}
use Rattle.raid_map.proofs.MarkLaws.{left_marked}
use Rattle.raid_map.proofs.marking.mark_all.Goals as goal

pub returns-clause-images : goal.returns-clause-images
returns-clause-images g c = λ told k d on x there l is held may.
    subst (λ b. IsBytesOf c.args.map.now b) (sym (left_marked g.D.Disk c.write_to.new.sector c.args.columns.now c.mark_each.new.columns c.args.devices.now c.mark_each.new.devices c.mark_each.ensures.count c.mark_each.ensures.marked told k d on x there l is held may)) c.write_to.ensures.map
