use Rattle.eng_array.proofs.OpenedSteady.{opened-steady}
use Rattle.eng_array.proofs.OpenedFits.{opened-fits}
use Rattle.eng_array.proofs.calls.Core.open.Goals as goal

pub returns-in-Ok-clause-steady : goal.returns-in-Ok-clause-steady
returns-in-Ok-clause-steady g c =
    let e = c.in-Ok.ensures in
    opened-steady g.L.Layout g.D.Disk c.args.setup c.in-Ok.array c.requires.setup e.opened c.requires.room.few c.requires.trace e.sound e.asked e.worlds e.laid

pub returns-in-Ok-clause-rebuilds : goal.returns-in-Ok-clause-rebuilds
returns-in-Ok-clause-rebuilds g c = opened-fits g.L.Layout g.D.Disk c.args.setup c.in-Ok.array c.in-Ok.ensures.opened c.requires.room.few
