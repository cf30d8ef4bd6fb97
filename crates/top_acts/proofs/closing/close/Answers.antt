use Rattle.std.proofs.Common.{◌∙◌, ap, refl, true, None, inl, arith}
use Rattle.raid_label.specs.declared.label.Label.{Label}
use Rattle.top_rounds.specs.Labels.{seating_in, with_round}
use Rattle.top_close.specs.Stage.{DiesIn}
use Rattle.top_rounds.proofs.RoundLaws.{any_death, can-after, settable_after}
use Rattle.top_acts.proofs.Closes.{broken_again, closed_then, few, holds_again, label_again, turns_again}
use Rattle.top_acts.proofs.Counted.{counted-none}
use Rattle.top_acts.proofs.InTurn.{in_turn-none}
use Rattle.top_acts.proofs.closing.close.Goals as goal
use Rattle.top_rounds.proofs.Words.{IsFirstInUse}

pub loop-init : goal.loop-init
loop-init g c = record { counted = counted-none g.D.Disk c.args.label.now c.args.hand.now.ending.columns.items c.args.devices.now; each = in_turn-none g.D.Disk true c.args.hand.now.ending.columns.items c.args.devices.now; holds = λ k d live tells. inl refl; same = refl; held = c.requires.held; judge = c.requires.judge }

pub try_close-requires-clause-array : goal.try_close-requires-clause-array
try_close-requires-clause-array g c =
    let columns = c.args.hand.now.ending.columns.items in
    let t = c.loop.invariant.counted in
    can-after g.D.Disk (DiesIn g.D.Disk None columns c.args.devices.now c.loop.devices) (IsFirstInUse columns) columns c.loop.hand.ending.columns.items c.args.devices.now c.loop.devices t.stage.dies t.stage.frame c.requires.array

pub try_close-requires-clause-columns : goal.try_close-requires-clause-columns
try_close-requires-clause-columns g c =
    let old = c.args.hand.now.ending.columns.items in
    let new = c.loop.hand.ending.columns.items in
    let dies = any_death (DiesIn g.D.Disk None old c.args.devices.now c.loop.devices) old new c.loop.invariant.counted.stage.dies in
    settable_after (g.L.Layout.shape c.args.layout.now) old new dies (c.deaths_bring_no_unit_back.ensures.filling old new dies) (c.deaths_bring_no_unit_back.ensures.spread old new dies) c.requires.columns

pub try_close-requires-clause-counter : goal.try_close-requires-clause-counter
try_close-requires-clause-counter g c = omega (arith, few g.D.Disk c.args.label.now c.loop.label c.args.hand.now.ending.columns.items c.loop.hand.ending.columns.items c.args.devices.now c.loop.devices c.loop.invariant.counted c.requires.array.columns_most, c.requires.counter)

pub loop-preserved : goal.loop-preserved
loop-preserved g c =
    let b = c.loop-test.ensures.tried in
    let l = c.loop in
    let was = c.loop.invariant.counted in
    record {
      counted = broken_again g.D.Disk c.args.label.now l.label c.try_close.new.label c.args.hand.now.ending.columns.items l.hand.ending.columns.items c.try_close.new.hand.ending.columns.items c.args.devices.now l.devices c.try_close.new.devices was l.invariant.same b;
      each = turns_again g.D.Disk c.args.label.now l.label c.try_close.new.label c.args.hand.now.ending.columns.items l.hand.ending.columns.items c.try_close.new.hand.ending.columns.items c.args.devices.now l.devices c.try_close.new.devices was l.invariant.same true c.requires.array.have.apart l.invariant.each b;
      holds = holds_again g.D.Disk c.args.label.now l.label c.try_close.new.label c.args.hand.now.ending.columns.items l.hand.ending.columns.items c.try_close.new.hand.ending.columns.items c.args.devices.now l.devices c.try_close.new.devices was l.invariant.same l.invariant.holds b;
      same = label_again g.D.Disk c.args.label.now l.label c.try_close.new.label c.args.hand.now.ending.columns.items l.hand.ending.columns.items c.try_close.new.hand.ending.columns.items c.args.devices.now l.devices c.try_close.new.devices was l.invariant.same c.args.label.now.clean
          (b.label_is ∙ ap (λ k. with_round l.label c.try_close.new.label.counter k (seating_in c.try_close.new.label)) (ap (λ (x : Label). x.clean) l.invariant.same));
      held = c.loop-test.ensures.held;
      judge = c.loop-test.ensures.judge;
    }

pub loop-smaller : goal.loop-smaller
loop-smaller g c = c.loop-test.ensures.tried.fewer

pub returns-clause-closed : goal.returns-clause-closed
returns-clause-closed g c =
    closed_then g.D.Disk c.args.label.now c.loop.label c.try_close.new.label c.args.hand.now.ending.columns.items c.loop.hand.ending.columns.items c.try_close.new.hand.ending.columns.items c.args.devices.now c.loop.devices c.try_close.new.devices c.loop.invariant.counted c.loop.invariant.same true c.try_close.new.hand.ending.lost c.requires.array.have.apart c.loop.invariant.each c.loop.invariant.holds c.loop-test.ensures.tried
