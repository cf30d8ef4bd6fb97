use Rattle.std.proofs.Common.{◌≡◌, ◌∙◌, sym, subst, arith}
use Rattle.raid_map.specs.Sweeping.{marks_stripe, IsCountedTo}
use Rattle.raid_map.proofs.SweepOn.{SweptTo, array-mid, held-more, held-none, judge-set, swept-none, swept-more, swept-skip, swept-in-sync, counted-none, counted-skip, counted-yes, counted-no}
use Rattle.raid_map.proofs.SweepCalls.{called-none, called-more, calls-marked}
use Rattle.raid_map.proofs.sweeping.sweep_marked.Goals.{then-marked+then-sync_one, then-marked+else-sync_one, else-marked}
use Rattle.raid_map.proofs.sweeping.sweep_marked.Goals as goal

pub sync_one-requires-clause-array : goal.sync_one-requires-clause-array
sync_one-requires-clause-array g c =
    let y = g.L.Layout.shape c.args.layout.now in
    let layout = g.met.L.Layout.is_layout c.args.layout.now in
    let one : y.checks ≡ 1 = omega (arith, c.if-checks-eq0.false, c.checks.ensures, layout.checks_most) in
    array-mid g.D.Disk y layout one (marks_stripe c.args.map.now) c.args.columns.now c.args.devices.now c.requires.array c.loop-stripe.stripe c.loop-stripe.columns c.loop-stripe.devices c.loop-stripe.invariant.0

pub loop-stripe-init : goal.loop-stripe-init
loop-stripe-init g c =
    let y = g.L.Layout.shape c.args.layout.now in
    let layout = g.met.L.Layout.is_layout c.args.layout.now in
    let one : y.checks ≡ 1 = omega (arith, c.if-checks-eq0.false, c.checks.ensures, layout.checks_most) in
    let marks = marks_stripe c.args.map.now in
    let same : c.room.inside.room ≡ c.args.room.now = search in (
      swept-none g.D.Disk y layout one marks c.args.columns.now c.args.devices.now c.requires.array,
      omega arith,
      same,
      counted-none g.D.Disk y layout one marks c.args.columns.now c.args.devices.now c.requires.array,
      judge-set g.D.Disk y layout one marks c.args.columns.now c.args.devices.now c.requires.array c.args.judge.now c.set.new.self c.requires.judge c.requires.columns.entries c.set.ensures.columns,
      called-none g.D.Disk y marks c.args.columns.now c.args.devices.now,
      held-none g.D.Disk y layout one marks c.args.columns.now c.args.devices.now c.requires.array,
    )

pub loop-stripe-preserved : goal.loop-stripe-preserved
loop-stripe-preserved g c =
    let y = g.L.Layout.shape c.args.layout.now in
    let layout = g.met.L.Layout.is_layout c.args.layout.now in
    let one : y.checks ≡ 1 = omega (arith, c.if-checks-eq0.false, c.checks.ensures, layout.checks_most) in
    let within = c.loop-stripe-test.true in
    let few = c.loop-stripe.invariant.1 in
    let marks = marks_stripe c.args.map.now in
    elim c.if-marked.branch [
      | then-marked+then-sync_one w ↦ rw (w.devices-is, w.columns-is, w.count-is, w.room-inside-is, w.judge-is) (
        swept-more g.D.Disk y layout one marks c.args.columns.now c.args.devices.now c.requires.array c.loop-stripe.stripe (omega (arith, within, c.stripes-stripe-end.ensures)) c.loop-stripe.columns w.sync_one.new.columns c.loop-stripe.devices w.sync_one.new.devices
            (sym c.marked.ensures ∙ w.if-marked.true) c.loop-stripe.invariant.0 w.sync_one.result w.sync_one.ensures.turn,
        omega (arith, few),
        w.sync_one.ensures.room ∙ c.loop-stripe.invariant.2,
        counted-yes g.D.Disk y layout one marks c.args.columns.now c.args.devices.now c.requires.array c.loop-stripe.stripe (omega (arith, within, c.stripes-stripe-end.ensures)) c.loop-stripe.columns w.sync_one.new.columns c.loop-stripe.devices w.sync_one.new.devices (sym c.marked.ensures ∙ w.if-marked.true) c.loop-stripe.invariant.0 w.sync_one.result w.sync_one.ensures.turn c.loop-stripe.count w.if-sync_one.true c.loop-stripe.invariant.3,
        w.sync_one.ensures.judge,
        called-more g.D.Disk y marks c.args.columns.now c.args.devices.now layout one c.loop-stripe.stripe (omega (arith, within, c.stripes-stripe-end.ensures)) (sym c.marked.ensures ∙ w.if-marked.true) c.loop-stripe.columns w.sync_one.new.columns c.loop-stripe.devices w.sync_one.new.devices w.sync_one.result
            (c.loop-stripe.invariant.0.back.order c.requires.array.order) c.loop-stripe.invariant.0.back w.sync_one.ensures.turn c.loop-stripe.invariant.5,
        held-more g.D.Disk y layout one marks c.args.columns.now c.args.devices.now c.requires.array c.loop-stripe.stripe (omega (arith, within, c.stripes-stripe-end.ensures)) c.loop-stripe.columns w.sync_one.new.columns c.loop-stripe.devices w.sync_one.new.devices (sym c.marked.ensures ∙ w.if-marked.true) c.loop-stripe.invariant.0 w.sync_one.result w.sync_one.ensures.turn c.loop-stripe.invariant.6,
      )
      | then-marked+else-sync_one w ↦ rw (w.devices-is, w.columns-is, w.count-is, w.room-inside-is, w.judge-is) (
        swept-more g.D.Disk y layout one marks c.args.columns.now c.args.devices.now c.requires.array c.loop-stripe.stripe (omega (arith, within, c.stripes-stripe-end.ensures)) c.loop-stripe.columns w.sync_one.new.columns c.loop-stripe.devices w.sync_one.new.devices
            (sym c.marked.ensures ∙ w.if-marked.true) c.loop-stripe.invariant.0 w.sync_one.result w.sync_one.ensures.turn,
        omega (arith, few),
        w.sync_one.ensures.room ∙ c.loop-stripe.invariant.2,
        counted-no g.D.Disk y layout one marks c.args.columns.now c.args.devices.now c.requires.array c.loop-stripe.stripe (omega (arith, within, c.stripes-stripe-end.ensures)) c.loop-stripe.columns w.sync_one.new.columns c.loop-stripe.devices w.sync_one.new.devices (sym c.marked.ensures ∙ w.if-marked.true) c.loop-stripe.invariant.0 w.sync_one.result w.sync_one.ensures.turn c.loop-stripe.count w.if-sync_one.false c.loop-stripe.invariant.3,
        w.sync_one.ensures.judge,
        called-more g.D.Disk y marks c.args.columns.now c.args.devices.now layout one c.loop-stripe.stripe (omega (arith, within, c.stripes-stripe-end.ensures)) (sym c.marked.ensures ∙ w.if-marked.true) c.loop-stripe.columns w.sync_one.new.columns c.loop-stripe.devices w.sync_one.new.devices w.sync_one.result
            (c.loop-stripe.invariant.0.back.order c.requires.array.order) c.loop-stripe.invariant.0.back w.sync_one.ensures.turn c.loop-stripe.invariant.5,
        held-more g.D.Disk y layout one marks c.args.columns.now c.args.devices.now c.requires.array c.loop-stripe.stripe (omega (arith, within, c.stripes-stripe-end.ensures)) c.loop-stripe.columns w.sync_one.new.columns c.loop-stripe.devices w.sync_one.new.devices (sym c.marked.ensures ∙ w.if-marked.true) c.loop-stripe.invariant.0 w.sync_one.result w.sync_one.ensures.turn c.loop-stripe.invariant.6,
      )
      | else-marked w ↦ rw (w.devices-is, w.columns-is, w.count-is, w.room-inside-is, w.judge-is) (
        swept-skip g.D.Disk y layout one marks c.args.columns.now c.args.devices.now c.requires.array c.loop-stripe.stripe c.loop-stripe.columns c.loop-stripe.devices
            (sym c.marked.ensures ∙ w.if-marked.false) c.loop-stripe.invariant.0,
        omega (arith, few),
        c.loop-stripe.invariant.2,
        counted-skip g.D.Disk y layout one marks c.args.columns.now c.args.devices.now c.requires.array c.loop-stripe.stripe c.loop-stripe.count c.loop-stripe.columns (sym c.marked.ensures ∙ w.if-marked.false) c.loop-stripe.invariant.3,
        c.loop-stripe.invariant.4,
        c.loop-stripe.invariant.5,
        c.loop-stripe.invariant.6,
      )
    ]

pub returns-clause-in_sync : goal.returns-clause-in_sync
returns-clause-in_sync g c told due =
    let y = g.L.Layout.shape c.args.layout.now in
    let layout = g.met.L.Layout.is_layout c.args.layout.now in
    let one : y.checks ≡ 1 = omega (arith, c.if-checks-eq0.false, c.checks.ensures, layout.checks_most) in
    let end : c.loop-stripe.stripe ≡ y.stripes = omega arith in
    swept-in-sync g.D.Disk y layout one (marks_stripe c.args.map.now) c.args.columns.now c.args.devices.now c.requires.array c.loop-stripe.columns c.loop-stripe.devices
    (subst (λ n. SweptTo g.D.Disk y (marks_stripe c.args.map.now) c.args.columns.now c.args.devices.now n c.loop-stripe.columns c.loop-stripe.devices) end c.loop-stripe.invariant.0) told due

pub returns-clause-calls : goal.returns-clause-calls
returns-clause-calls g c d =
    calls-marked g.D.Disk (g.L.Layout.shape c.args.layout.now) (marks_stripe c.args.map.now) c.args.columns.now c.args.devices.now c.loop-stripe.columns c.loop-stripe.devices c.loop-stripe.invariant.5 d

pub returns-clause-counted : goal.returns-clause-counted
returns-clause-counted g c one =
    let y = g.L.Layout.shape c.args.layout.now in
    let end : c.loop-stripe.stripe ≡ y.stripes = omega arith in
    subst (λ n. IsCountedTo g.D.Disk y (marks_stripe c.args.map.now) c.args.columns.now c.args.devices.now n c.loop-stripe.columns c.loop-stripe.count) end c.loop-stripe.invariant.3

pub returns-clause-checks : goal.returns-clause-checks
returns-clause-checks g c one = c.loop-stripe.invariant.6
