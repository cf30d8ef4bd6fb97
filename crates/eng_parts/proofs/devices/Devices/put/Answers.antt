use Rattle.std.proofs.Common.{◌∙◌, ap}
use Rattle.eng_parts.specs.Shelf.{Shelved, come_home}
use Rattle.eng_parts.proofs.Shelving.{comes_home}
use Rattle.eng_parts.proofs.devices.Devices.put.Goals as goal

pub returns : goal.returns
returns g c =
    comes_home c.self.inside.slots.items c.self.inside.failed.items c.args.number c.replace.new.dest c.args.device c.replace.ensures.after
    ∙ ap (λ (s : Shelved g.row.D.Denot). come_home s c.args.number c.args.device) c.self.view_is
