use Rattle.raid_recon.proofs.Answered.{visits-check}
use Rattle.raid_recon.proofs.stripe.check_stripe.Goals as goal

pub returns-clause-visits : goal.returns-clause-visits
returns-clause-visits g c rows h =
    let y = g.L.Layout.shape c.args.layout.now in
    let r = c.is_out_of_sync in
    visits-check g.D.Disk y c.args.windows c.args.cols.now.states c.args.stripe rows c.requires.complete c.args.devices.now r.new.devices r.new.hands r.new.ahead r.new.sum r.result (r.ensures.tests rows h)
