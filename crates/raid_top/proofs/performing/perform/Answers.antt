use Rattle.std.proofs.Common.{ap, subst, ◌∙◌, length}
use Rattle.top_bay.specs.Views.{asked_seen}
use Rattle.top_duty.specs.declared.duty.Duty.{Duty}
use Rattle.top_duty.specs.Opening.{sizes_of}
use Rattle.top_duty.specs.Views.{IsDutyOver}
use Rattle.raid_top.proofs.Orders.{array_names}
use Rattle.raid_top.proofs.performing.perform.Goals as goal

pub act_on_array-requires-clause-many : goal.act_on_array-requires-clause-many
act_on_array-requires-clause-many g c κs w =
    let a = c.args.admitted in
    let k = asked_seen a.asked in
    let over = subst (λ (d : Duty). IsDutyOver k (sizes_of g.D.Disk.size a.devices.items) a.fronts.items d) c.in-OnArray.is c.requires.duty in
    c.requires.many ∙ ap length (array_names k.conf k.command.action over.0)
