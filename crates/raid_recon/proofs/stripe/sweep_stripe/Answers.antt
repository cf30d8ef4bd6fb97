use Rattle.raid_recon.proofs.Turning.{visits-left}
use Rattle.raid_recon.proofs.stripe.sweep_stripe.Goals as goal

pub returns-then-not-is_complete-clause-visits : goal.returns-then-not-is_complete-clause-visits
returns-then-not-is_complete-clause-visits g c rows h =
    visits-left g.D.Disk c.args.kind (g.L.Layout.shape c.args.layout.now) c.args.windows c.args.cols.now.states c.args.stripe rows c.args.devices.now c.args.devices.now c.args.hands.now c.args.ahead.now c.if-not-is_complete.ensures h
