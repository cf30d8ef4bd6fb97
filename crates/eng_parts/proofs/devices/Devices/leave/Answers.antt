use Rattle.std.proofs.Common.{◌≡◌, ◌∙◌, sym, ap}
use Rattle.eng_parts.specs.declared.slot.Slot.TheVariants.{Home}
use Rattle.eng_parts.specs.Shelf.{Shelved, left}
use Rattle.eng_parts.proofs.Shelving.{leaves}
use Rattle.eng_parts.proofs.devices.Devices.leave.Goals as goal

pub returns-clause-now : goal.returns-clause-now
returns-clause-now g c =
    let e : Home c.in-Home.device ≡ Home c.in-Home-replace.device = sym c.replace.ensures.value ∙ c.in-Home-replace.is in
    let same : c.in-Home.device ≡ c.in-Home-replace.device = cc in
    leaves c.self.inside.slots.items c.self.inside.failed.items c.args.device c.replace.new.dest c.of-copied.result c.in-Home-replace.device c.replace.ensures.after (c.of-copied.ensures ∙ same)
    ∙ ap (λ (s : Shelved g.row.D.Denot). left s c.args.device c.in-Home-replace.device) c.self.view_is
