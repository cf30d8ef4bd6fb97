use Rattle.std.proofs.Common.{◌≡◌, ℕ, length, ap, ◌∙◌, subst, arith}
use Rattle.blk_disk.proofs.Written.{through_is}
use Rattle.raid_recon.specs.Ahead.{rows_ahead}
use Rattle.raid_recon.specs.Swept.{IsSwept}
use Rattle.raid_recon.proofs.Windows.{rows-few}
use Rattle.raid_recon.proofs.Ends.{swept-frame, swept-in_sync, swept-checks, swept-counted}
use Rattle.eng_cols.specs.Stripes.{states_of}
use Rattle.raid_recon.proofs.UnitCalls.{swept-calls, calls-same}
use Rattle.raid_recon.proofs.sweep.sweep.Goals as goal

pub returns-clause-swept : goal.returns-clause-swept
returns-clause-swept g c one =
    let y = g.L.Layout.shape c.args.layout.now in
    subst (λ (n : ℕ). IsSwept g.D.Disk c.args.kind y (rows_ahead y n) y.stripes c.args.columns.now c.sweep_in.new.columns c.args.devices.now c.sweep_in.new.devices c.sweep_in.result) (ap length c.as_mut_slice-room.ensures.value ∙ c.room.view_is) c.sweep_in.ensures.swept

pub returns-clause-frame : goal.returns-clause-frame
returns-clause-frame g c =
    let y = g.L.Layout.shape c.args.layout.now in
    let layout = g.met.L.Layout.is_layout c.args.layout.now in
    let one : y.checks ≡ 1 = omega (arith, c.if-checks-eq0.false, c.checks.ensures, layout.checks_most) in
    swept-frame g.D.Disk c.args.kind y _ layout one c.args.columns.now c.sweep_in.new.columns c.args.devices.now c.sweep_in.new.devices c.sweep_in.result c.requires.array c.sweep_in.ensures.swept

pub returns-clause-in_sync : goal.returns-clause-in_sync
returns-clause-in_sync g c =
    let y = g.L.Layout.shape c.args.layout.now in
    let layout = g.met.L.Layout.is_layout c.args.layout.now in
    let one : y.checks ≡ 1 = omega (arith, c.if-checks-eq0.false, c.checks.ensures, layout.checks_most) in
    swept-in_sync g.D.Disk c.args.kind y _ layout one c.args.columns.now c.sweep_in.new.columns c.args.devices.now c.sweep_in.new.devices c.sweep_in.result c.requires.array c.sweep_in.ensures.swept

pub returns-clause-counted : goal.returns-clause-counted
returns-clause-counted g c one =
    let y = g.L.Layout.shape c.args.layout.now in
    let layout = g.met.L.Layout.is_layout c.args.layout.now in
    swept-counted g.D.Disk c.args.kind y _ layout one c.args.columns.now c.sweep_in.new.columns c.args.devices.now c.sweep_in.new.devices c.sweep_in.result c.requires.array.order c.sweep_in.ensures.swept

pub returns-clause-calls : goal.returns-clause-calls
returns-clause-calls g c =
    let y = g.L.Layout.shape c.args.layout.now in
    let layout = g.met.L.Layout.is_layout c.args.layout.now in
    let one : y.checks ≡ 1 = omega (arith, c.if-checks-eq0.false, c.checks.ensures, layout.checks_most) in
    let few = rows-few y (length c.as_mut_slice-room.result.now) layout in
    swept-calls g.D.Disk c.args.kind y _ few.0 few.1 layout one c.args.columns.now c.sweep_in.new.columns c.args.devices.now c.sweep_in.new.devices c.sweep_in.result c.requires.array c.sweep_in.ensures.swept

pub returns-then-checks-eq0-clause-calls : goal.returns-then-checks-eq0-clause-calls
returns-then-checks-eq0-clause-calls g c d = let y = g.L.Layout.shape c.args.layout.now in calls-same g.D.Disk y (states_of y c.args.columns.now) c.args.devices.now d

pub returns-clause-checks : goal.returns-clause-checks
returns-clause-checks g c one =
    let y = g.L.Layout.shape c.args.layout.now in
    swept-checks g.D.Disk c.args.kind y _ (g.met.L.Layout.is_layout c.args.layout.now) one c.args.columns.now c.sweep_in.new.columns c.args.devices.now c.sweep_in.new.devices c.sweep_in.result c.requires.array c.sweep_in.ensures.swept

pub returns-clause-room : goal.returns-clause-room
returns-clause-room g c =
    let bytes = c.room.inside.bytes in
    let a : length c.sweep_in.new.room ≡ bytes.len = omega (arith, c.sweep_in.ensures.room, ap length c.as_mut_slice-room.ensures.value, c.as_mut_slice-room.ensures.len) in
    ap length (through_is bytes.items c.sweep_in.new.room bytes.len a) ∙ (c.sweep_in.ensures.room ∙ (ap length c.as_mut_slice-room.ensures.value ∙ c.room.view_is))
