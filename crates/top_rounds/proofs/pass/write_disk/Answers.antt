use Rattle.std.proofs.Common.{◌≡◌, ◌∙◌, ◌<◌, ◌/◌, arith, length}
use Rattle.top_rounds.proofs.Devices.{only_sector}
use Rattle.top_rounds.proofs.pass.write_disk.Goals as goal

pub returns-in-Ok-clause-held : goal.returns-in-Ok-clause-held
returns-in-Ok-clause-held g c = λ good told.
    let long : length c.write_label.new.sector ≡ 512 = c.write_label.auto.sector in
    let some : 0 < length c.write_label.new.sector / 512 = omega (arith, long) in
    c.in-Ok.ensures.bytes told 0 some ∙ only_sector c.write_label.new.sector long ∙ c.write_label.ensures
