use Rattle.std.proofs.Common.{refl, ap}
use Rattle.std.specs.Prelude.{is_ok}
use Rattle.lay_core.specs.Layout.{data_units}
use Rattle.raid_recon.specs.declared.kind.Sweep.TheVariants.{Init}
use Rattle.raid_recon.proofs.Answered.{visits-unread, visits-written, visits-unwritten}
use Rattle.raid_recon.proofs.Places.{seated-kept}
use Rattle.raid_recon.proofs.UnitReads.{nothing}
use Rattle.raid_recon.proofs.stripe.init_stripe.Goals as goal

pub returns-in-Err-clause-visits : goal.returns-in-Err-clause-visits
returns-in-Err-clause-visits g c rows h =
    let y = g.L.Layout.shape c.args.layout.now in
    let r = c.sum_data in
    visits-unread g.D.Disk y c.args.windows c.args.cols.now.states c.args.stripe rows c.requires.complete Init c.args.devices.now r.new.devices r.new.hands r.new.ahead (data_units y) c.in-Err.failed refl (c.in-Err.ensures.sums rows h)

pub write_check-requires-clause-array : goal.write_check-requires-clause-array
write_check-requires-clause-array g c =
    let y = g.L.Layout.shape c.args.layout.now in
    seated-kept g.D.Disk nothing y c.args.cols.now.states c.args.devices.now c.sum_data.new.devices c.requires.array c.sum_data.ensures.same

pub returns-in-Ok-write_check-clause-visits : goal.returns-in-Ok-write_check-clause-visits
returns-in-Ok-write_check-clause-visits g c rows h =
    let y = g.L.Layout.shape c.args.layout.now in
    let r = c.sum_data in
    let t = c.in-Ok.ensures.sums rows h in
    visits-written g.D.Disk y c.args.windows c.args.cols.now.states c.args.stripe rows c.requires.complete Init c.args.devices.now r.new.devices c.write_check.new.devices r.new.hands r.new.ahead (data_units y) refl t.0 r.new.sum tt c.write_check.result c.write_check.ensures
    (g.met.L.Layout.is_layout c.args.layout.now) c.requires.array.order c.requires.checks c.requires.stripe t.1 (ap is_ok c.in-Ok-write_check.is)

pub returns-in-Err-write_check-clause-visits : goal.returns-in-Err-write_check-clause-visits
returns-in-Err-write_check-clause-visits g c rows h =
    let y = g.L.Layout.shape c.args.layout.now in
    let r = c.sum_data in
    let t = c.in-Ok.ensures.sums rows h in
    visits-unwritten g.D.Disk y c.args.windows c.args.cols.now.states c.args.stripe rows c.requires.complete Init c.args.devices.now r.new.devices c.write_check.new.devices r.new.hands r.new.ahead (data_units y) refl t.0 r.new.sum tt c.write_check.result c.write_check.ensures
    (g.met.L.Layout.is_layout c.args.layout.now) c.requires.array.order c.requires.checks c.requires.stripe c.in-Err-write_check.failed c.in-Err-write_check.is
