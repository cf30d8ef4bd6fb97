use Rattle.std.proofs.Common.{sym, ◌∙◌, refl}
use Rattle.std.specs.Prelude.{slice_get}
use Rattle.eng_fails.proofs.Dying.{column-device, device-below}
use Rattle.eng_fails.proofs.fails.blame.Goals as goal

pub device_fails-requires : goal.device_fails-requires
device_fails-requires g c =
    let core = c.args.array.now in
    let y = g.L.Layout.shape core.layout in
    device-below g.D.Disk y core.cols core.devices c.requires.sound.seated c.args.column c.in-Some.device
    (column-device core.cols.states c.args.column c.in-Some.device (slice_get core.cols.states c.args.column) refl (sym c.device.ensures ∙ c.in-Some.is))
