use Rattle.std.proofs.Common.{◌≡◌, ◌∙◌, ◌&&◌, Bool, List, All, length, ap, subst, sym}
use Rattle.eng_cols.specs.declared.column.Column.{Column}
use Rattle.raid_label.specs.declared.label.Label.{Label}
use Rattle.top_rounds.specs.Labels.{IsNumbered}
use Rattle.top_acts.specs.Seats.{names}
use Rattle.raid_map.specs.Marking.{IsMapSector}
use Rattle.eng_cols.specs.Deaths.{LosesDevice}
use Rattle.top_rounds.proofs.RoundLaws.{any_death, can-after, settable_after}
use Rattle.top_acts.proofs.Announced.{names_anew, names_kept, names_lost}
use Rattle.top_acts.proofs.Held.{held_after}
use Rattle.top_acts.proofs.Marked.{marks_dies}
use Rattle.top_acts.proofs.Tried.{none_of}
use Rattle.top_acts.proofs.beginning.mark.Goals as goal

pub write_lost-requires-clause-array : goal.write_lost-requires-clause-array
write_lost-requires-clause-array g c =
    let columns = c.args.hand.now.ending.columns.items in
    let m = c.mark_and_judge in
    let mid = m.new.hand.ending.columns.items in
    let old = c.args.devices.now in
    let dies = marks_dies g.D.Disk c.args.map.now columns mid old m.new.devices m.ensures.marked in
    can-after g.D.Disk (LosesDevice g.D.Disk columns old m.new.devices) (IsMapSector columns) columns mid old m.new.devices dies m.ensures.marked.marked.frame c.requires.can.labels

pub write_lost-requires-clause-columns : goal.write_lost-requires-clause-columns
write_lost-requires-clause-columns g c =
    let columns = c.args.hand.now.ending.columns.items in
    let m = c.mark_and_judge in
    let mid = m.new.hand.ending.columns.items in
    let old = c.args.devices.now in
    let dies = any_death (LosesDevice g.D.Disk columns old m.new.devices) columns mid (marks_dies g.D.Disk c.args.map.now columns mid old m.new.devices m.ensures.marked) in
    settable_after (g.L.Layout.shape c.args.layout.now) columns mid dies (c.deaths_bring_no_unit_back.ensures.filling columns mid dies) (c.deaths_bring_no_unit_back.ensures.spread columns mid dies) c.requires.can.settable

pub write_lost-requires-clause-held : goal.write_lost-requires-clause-held
write_lost-requires-clause-held g c =
    let columns = c.args.hand.now.ending.columns.items in
    let m = c.mark_and_judge in
    let mid = m.new.hand.ending.columns.items in
    held_after columns mid c.args.label.now (marks_dies g.D.Disk c.args.map.now columns mid c.args.devices.now m.new.devices m.ensures.marked).count c.requires.held

pub close-requires-clause-array : goal.close-requires-clause-array
close-requires-clause-array g c =
    let columns = c.args.hand.now.ending.columns.items in
    let m = c.mark_and_judge in
    let mid = m.new.hand.ending.columns.items in
    let old = c.args.devices.now in
    let dies = marks_dies g.D.Disk c.args.map.now columns mid old m.new.devices m.ensures.marked in
    can-after g.D.Disk (LosesDevice g.D.Disk columns old m.new.devices) (IsMapSector columns) columns mid old m.new.devices dies m.ensures.marked.marked.frame c.requires.can.labels

pub close-requires-clause-columns : goal.close-requires-clause-columns
close-requires-clause-columns g c =
    let columns = c.args.hand.now.ending.columns.items in
    let m = c.mark_and_judge in
    let mid = m.new.hand.ending.columns.items in
    let old = c.args.devices.now in
    let dies = any_death (LosesDevice g.D.Disk columns old m.new.devices) columns mid (marks_dies g.D.Disk c.args.map.now columns mid old m.new.devices m.ensures.marked) in
    settable_after (g.L.Layout.shape c.args.layout.now) columns mid dies (c.deaths_bring_no_unit_back.ensures.filling columns mid dies) (c.deaths_bring_no_unit_back.ensures.spread columns mid dies) c.requires.can.settable

pub close-requires-clause-held : goal.close-requires-clause-held
close-requires-clause-held g c =
    let columns = c.args.hand.now.ending.columns.items in
    let m = c.mark_and_judge in
    let mid = m.new.hand.ending.columns.items in
    held_after columns mid c.args.label.now (marks_dies g.D.Disk c.args.map.now columns mid c.args.devices.now m.new.devices m.ensures.marked).count c.requires.held

pub names_still-still-requires-clause-numbered : goal.names_still-still-requires-clause-numbered
names_still-still-requires-clause-numbered g c =
    let columns = c.args.hand.now.ending.columns.items in
    let m = c.mark_and_judge in
    let mid = m.new.hand.ending.columns.items in
    let old = c.args.devices.now in
    let dies = marks_dies g.D.Disk c.args.map.now columns mid old m.new.devices m.ensures.marked in
    let can = can-after g.D.Disk (LosesDevice g.D.Disk columns old m.new.devices) (IsMapSector columns) columns mid old m.new.devices dies m.ensures.marked.marked.frame c.requires.can.labels in
    subst (λ (cs : List Column). All (IsNumbered (length cs)) cs) (sym c.deref-2.ensures.value) can.numbered

-- the label names the columns before the marks and behind them
still-is : (a still : Bool) (label : Label) (one two columns mid : List Column) → a ≡ names label one → one ≡ columns → still ≡ (a && names label two) → two ≡ mid → (names label columns && names label mid) ≡ still
still-is a still label one two columns mid named first is second =
    sym (is ∙ (ap (λ (cs : List Column). a && names label cs) second ∙ ap (λ (x : Bool). x && names label mid) (named ∙ ap (names label) first)))

pub returns-then-is_some-clause-opens : goal.returns-then-is_some-clause-opens
returns-then-is_some-clause-opens g c =
    let label = c.args.label.now in
    let columns = c.args.hand.now.ending.columns.items in
    let m = c.mark_and_judge in
    let mid = m.new.hand.ending.columns.items in
    let w = c.write_lost in (
      mid,
      m.new.devices,
      m.new.hand.ending.lost,
      m.ensures.marked,
      m.ensures.lost,
      names_lost g.D.Disk m.new.hand.ending.lost w.new.hand.ending.lost (names label columns && names label mid) label w.new.label mid w.new.hand.ending.columns.items m.new.devices w.new.devices
          (sym c.is_some.ensures ∙ c.if-is_some.true) w.ensures.lost w.ensures.label w.ensures.rounds,
    )

pub returns-then-not-still-clause-opens : goal.returns-then-not-still-clause-opens
returns-then-not-still-clause-opens g c =
    let label = c.args.label.now in
    let columns = c.args.hand.now.ending.columns.items in
    let m = c.mark_and_judge in
    let mid = m.new.hand.ending.columns.items in
    let k = c.close in
    let still = still-is c.names-named.result c.names_still-still.result label c.deref.result.now c.deref-2.result.now columns mid c.names-named.ensures c.deref.ensures.value c.names_still-still.ensures c.deref-2.ensures.value in (
      mid,
      m.new.devices,
      m.new.hand.ending.lost,
      m.ensures.marked,
      m.ensures.lost,
      names_anew g.D.Disk m.new.hand.ending.lost k.new.hand.ending.lost (names label columns && names label mid) label k.new.label mid k.new.hand.ending.columns.items m.new.devices k.new.devices
          (none_of m.new.hand.ending.lost (sym c.is_some.ensures ∙ c.if-is_some.false)) (still ∙ c.if-not-still.true) k.ensures.closed,
    )

pub returns-else-not-still-clause-opens : goal.returns-else-not-still-clause-opens
returns-else-not-still-clause-opens g c =
    let label = c.args.label.now in
    let columns = c.args.hand.now.ending.columns.items in
    let m = c.mark_and_judge in
    let mid = m.new.hand.ending.columns.items in
    let still = still-is c.names-named.result c.names_still-still.result label c.deref.result.now c.deref-2.result.now columns mid c.names-named.ensures c.deref.ensures.value c.names_still-still.ensures c.deref-2.ensures.value in (
      mid,
      m.new.devices,
      m.new.hand.ending.lost,
      m.ensures.marked,
      m.ensures.lost,
      names_kept g.D.Disk m.new.hand.ending.lost (names label columns && names label mid) label mid m.new.devices
          (none_of m.new.hand.ending.lost (sym c.is_some.ensures ∙ c.if-is_some.false)) (still ∙ c.if-not-still.false),
    )

pub returns-else-not-still-clause-held : goal.returns-else-not-still-clause-held
returns-else-not-still-clause-held g c =
    let columns = c.args.hand.now.ending.columns.items in
    let m = c.mark_and_judge in
    let mid = m.new.hand.ending.columns.items in
    held_after columns mid c.args.label.now (marks_dies g.D.Disk c.args.map.now columns mid c.args.devices.now m.new.devices m.ensures.marked).count c.requires.held
