use Rattle.std.proofs.Common.{refl, ap, subst}
use Rattle.std.specs.Prelude.{is_ok}
use Rattle.raid_recon.specs.Units.{Tested}
use Rattle.raid_recon.specs.declared.kind.Sweep.TheVariants.{Sync}
use Rattle.raid_recon.proofs.Answered.{visits-unread, visits-sound, visits-written, visits-unwritten}
use Rattle.raid_recon.proofs.Places.{seated-kept}
use Rattle.raid_recon.proofs.UnitReads.{nothing}
use Rattle.raid_recon.proofs.stripe.sync_stripe.Goals as goal

pub returns-in-Err-clause-visits : goal.returns-in-Err-clause-visits
returns-in-Err-clause-visits g c rows h =
    let y = g.L.Layout.shape c.args.layout.now in
    let r = c.is_out_of_sync in
    visits-unread g.D.Disk y c.args.windows c.args.cols.now.states c.args.stripe rows c.requires.complete Sync c.args.devices.now r.new.devices r.new.hands r.new.ahead y.width c.in-Err.failed refl (c.in-Err.ensures.tests rows h)

pub write_check-requires-clause-array : goal.write_check-requires-clause-array
write_check-requires-clause-array g c =
    let y = g.L.Layout.shape c.args.layout.now in
    seated-kept g.D.Disk nothing y c.args.cols.now.states c.args.devices.now c.is_out_of_sync.new.devices c.requires.array c.is_out_of_sync.ensures.same

pub returns-in-Ok-clause-visits : goal.returns-in-Ok-clause-visits
returns-in-Ok-clause-visits g c rows h =
    let y = g.L.Layout.shape c.args.layout.now in
    let r = c.is_out_of_sync in
    let t = c.in-Ok-true.ensures.tests rows h in
    visits-written g.D.Disk y c.args.windows c.args.cols.now.states c.args.stripe rows c.requires.complete Sync c.args.devices.now r.new.devices c.write_check.new.devices r.new.hands r.new.ahead y.width refl t.read r.new.sum (t.not_zero c.in-Ok-true.field-0-test) c.write_check.result c.write_check.ensures
    (g.met.L.Layout.is_layout c.args.layout.now) c.requires.array.order c.requires.checks c.requires.stripe t.sums (ap is_ok c.in-Ok.is)

pub returns-in-Err-write_check-clause-visits : goal.returns-in-Err-write_check-clause-visits
returns-in-Err-write_check-clause-visits g c rows h =
    let y = g.L.Layout.shape c.args.layout.now in
    let r = c.is_out_of_sync in
    let t = c.in-Ok-true.ensures.tests rows h in
    visits-unwritten g.D.Disk y c.args.windows c.args.cols.now.states c.args.stripe rows c.requires.complete Sync c.args.devices.now r.new.devices c.write_check.new.devices r.new.hands r.new.ahead y.width refl t.read r.new.sum (t.not_zero c.in-Ok-true.field-0-test) c.write_check.result c.write_check.ensures
    (g.met.L.Layout.is_layout c.args.layout.now) c.requires.array.order c.requires.checks c.requires.stripe c.in-Err-write_check.failed c.in-Err-write_check.is

pub returns-in-Ok-false-clause-visits : goal.returns-in-Ok-false-clause-visits
returns-in-Ok-false-clause-visits g c rows h =
    let y = g.L.Layout.shape c.args.layout.now in
    let r = c.is_out_of_sync in
    visits-sound g.D.Disk y c.args.windows c.args.cols.now.states c.args.stripe rows c.requires.complete Sync c.args.devices.now r.new.devices r.new.hands r.new.ahead r.new.sum refl refl
    (subst (λ b. Tested g.D.Disk y c.args.windows c.args.cols.now.states c.args.stripe rows c.args.devices.now r.new.devices r.new.hands r.new.ahead r.new.sum b) c.in-Ok-false.field-0-test (c.in-Ok-false.ensures.tests rows h))
