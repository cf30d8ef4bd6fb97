use Rattle.std.proofs.Common.{◌≡◌, ◌∙◌, List, None, inl, inr, subst, sym}
use Rattle.eng_cols.specs.declared.column.Column.{Column}
use Rattle.eng_cols.specs.Settable.{IsSettable}
use Rattle.eng_cols.specs.Stripes.{states_of}
use Rattle.top_close.specs.Ended.{IsLossBy}
use Rattle.top_close.specs.Stage.{DiesIn}
use Rattle.top_rounds.proofs.RoundLaws.{any_death}
use Rattle.top_acts.specs.Failed.{EndsFailed}
use Rattle.top_acts.proofs.Counted.{counted_rounds}
use Rattle.top_acts.proofs.Ended.{rounds_of}
use Rattle.top_acts.proofs.Fails.{fails_lost, fails_quiet}
use Rattle.top_acts.proofs.Having.{acts_after}
use Rattle.top_acts.proofs.Held.{held_after}
use Rattle.top_acts.proofs.Named.{apart_in}
use Rattle.top_acts.proofs.Tried.{none_of}
use Rattle.top_acts.proofs.Without.{acts}
use Rattle.top_acts.proofs.failing.fail_column.Goals as goal
use Rattle.top_acts.proofs.failing.fail_column.Goals.{else-not-before-via-then-not-before+else-is_some, else-not-before-via-else-not-before}
use Rattle.top_rounds.proofs.Words.{IsFirstInUse}

pub loss_of-hand-requires-clause-columns : goal.loss_of-hand-requires-clause-columns
loss_of-hand-requires-clause-columns g c =
    subst (IsSettable (g.L.Layout.shape c.args.layout.now)) (sym c.deref.ensures.value)
    (acts (g.L.Layout.shape c.args.layout.now) c.args.hand.now.ending.columns.items c.lose_column.new.hand.ending.columns.items c.args.column c.lose_column.ensures.without g.D.Disk c.args.devices.now c.requires.can).settable

pub write_lost-requires-clause-array : goal.write_lost-requires-clause-array
write_lost-requires-clause-array g c =
    (acts (g.L.Layout.shape c.args.layout.now) c.args.hand.now.ending.columns.items c.lose_column.new.hand.ending.columns.items c.args.column c.lose_column.ensures.without g.D.Disk c.args.devices.now c.requires.can).labels

pub write_lost-requires-clause-columns : goal.write_lost-requires-clause-columns
write_lost-requires-clause-columns g c =
    (acts (g.L.Layout.shape c.args.layout.now) c.args.hand.now.ending.columns.items c.lose_column.new.hand.ending.columns.items c.args.column c.lose_column.ensures.without g.D.Disk c.args.devices.now c.requires.can).settable

pub write_lost-requires-clause-held : goal.write_lost-requires-clause-held
write_lost-requires-clause-held g c = held_after c.args.hand.now.ending.columns.items c.lose_column.new.hand.ending.columns.items c.args.label.now c.lose_column.ensures.without.entries c.requires.held

pub returns-then-is_some-clause-ends : goal.returns-then-is_some-clause-ends
returns-then-is_some-clause-ends g c =
    let w = c.write_lost in
    let dead = c.lose_column.new.hand.ending.columns.items in
    let none : c.args.hand.now.ending.lost ≡ None = none_of c.args.hand.now.ending.lost (sym c.is_some-before.ensures ∙ c.if-not-before.true) in (
      dead,
      c.lose_column.ensures.without,
      subst (λ o. EndsFailed g.D.Disk o w.new.hand.ending.lost c.args.label.now w.new.label dead w.new.hand.ending.columns.items c.args.devices.now w.new.devices) (sym none)
          (fails_lost g.D.Disk w.new.hand.ending.lost c.args.label.now w.new.label dead w.new.hand.ending.columns.items c.args.devices.now w.new.devices w.ensures.lost w.ensures.label w.ensures.rounds),
    )

pub returns-then-is_some-clause-can : goal.returns-then-is_some-clause-can
returns-then-is_some-clause-can g c =
    let y = g.L.Layout.shape c.args.layout.now in
    let dead = c.lose_column.new.hand.ending.columns.items in
    let w = c.write_lost in
    let lost = w.new.hand.ending.lost in
    let after = w.new.hand.ending.columns.items in
    let old = c.args.devices.now in
    let r = rounds_of g.D.Disk lost c.args.label.now w.new.label dead after old w.new.devices w.ensures.rounds in
    let counted = counted_rounds g.D.Disk lost c.args.label.now w.new.label dead r.0 after old w.new.devices r.1 in
    let dies = any_death (DiesIn g.D.Disk lost dead old w.new.devices) dead after counted.stage.dies in
    acts_after g.D.Disk y (DiesIn g.D.Disk lost dead old w.new.devices) (IsFirstInUse dead) dead after old w.new.devices counted.stage.dies (apart_in g.D.Disk lost dead after old w.new.devices counted.stage.dies) counted.stage.frame
    (c.deaths_bring_no_unit_back.ensures.filling dead after dies) (c.deaths_bring_no_unit_back.ensures.spread dead after dies)
    (acts y c.args.hand.now.ending.columns.items dead c.args.column c.lose_column.ensures.without g.D.Disk old c.requires.can)

pub returns-else-not-before-clause-lost : goal.returns-else-not-before-clause-lost
returns-else-not-before-clause-lost g c =
    let y = g.L.Layout.shape c.args.layout.now in
    subst (λ (cs : List Column). IsLossBy y None (states_of y cs) c.loss_of-hand.result) c.deref.ensures.value c.loss_of-hand.ensures.lost

pub returns-else-not-before-clause-ends : goal.returns-else-not-before-clause-ends
returns-else-not-before-clause-ends g c =
    let y = g.L.Layout.shape c.args.layout.now in
    let columns = c.args.hand.now.ending.columns.items in
    let dead = c.lose_column.new.hand.ending.columns.items in
    let w = c.lose_column.ensures.without in (
      dead,
      w,
      fails_quiet g.D.Disk y c.args.column c.args.hand.now.ending.lost c.loss_of-hand.result c.args.label.now columns dead c.args.devices.now w c.requires.can.settable.filling c.requires.by (returns-else-not-before-clause-lost g c)
          (elim c.else-not-before.branch [
            | else-not-before-via-then-not-before+else-is_some w ↦ inr (sym w.is_some.ensures ∙ w.if-is_some.false)
            | else-not-before-via-else-not-before w ↦ inl (sym c.is_some-before.ensures ∙ w.if-not-before.false)
          ]),
    )

pub returns-else-not-before-clause-can : goal.returns-else-not-before-clause-can
returns-else-not-before-clause-can g c =
    acts (g.L.Layout.shape c.args.layout.now) c.args.hand.now.ending.columns.items c.lose_column.new.hand.ending.columns.items c.args.column c.lose_column.ensures.without g.D.Disk c.args.devices.now c.requires.can

pub returns-else-not-before-clause-held : goal.returns-else-not-before-clause-held
returns-else-not-before-clause-held g c = held_after c.args.hand.now.ending.columns.items c.lose_column.new.hand.ending.columns.items c.args.label.now c.lose_column.ensures.without.entries c.requires.held
