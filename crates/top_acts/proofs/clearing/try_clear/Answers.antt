use Rattle.std.proofs.Common.{◌≡◌, ◌∙◌, ◌++◌, ap, drop, take, false, length, None, refl, subst, sym, true, arith}
use Rattle.raid_map.specs.Marking.{AreMarked, IsMapSector}
use Rattle.top_close.specs.Stage.{device_count}
use Rattle.top_rounds.proofs.RoundLaws.{any_death, can-after, settable_after, whole_slice}
use Rattle.top_acts.specs.Cleared.{TriesToClear}
use Rattle.top_acts.proofs.Clears.{marks_fewer, marks_same, mapped_closed}
use Rattle.top_acts.proofs.Marked.{marks_all, marks_dies}
use Rattle.top_acts.proofs.Tried.{none_of}
use Rattle.top_acts.proofs.clearing.try_clear.Goals as goal
use Rattle.eng_cols.specs.Deaths.{LosesDevice}

pub close_anew-requires-clause-array : goal.close_anew-requires-clause-array
close_anew-requires-clause-array g c =
    let e = c.args.hand.now.ending in
    let columns = e.columns.items in
    let old = c.args.devices.now in
    let m = c.mark_all in
    let own = sym e.columns.ok.0 in
    let same = whole_slice e.columns.len m.new.columns columns own (m.auto.columns ∙ (ap length c.as_mut_slice.ensures.value ∙ own)) in
    let mid = take e.columns.len (m.new.columns ++ drop (length m.new.columns) columns) in
    let made = m.ensures.marked in
    let are = subst (λ l. AreMarked g.D.Disk (length columns) made.0 columns l old m.new.devices) (sym same)
    (subst (λ l. AreMarked g.D.Disk (length l) made.0 l m.new.columns old m.new.devices) c.as_mut_slice.ensures.value made.2) in
    let marks = marks_all g.D.Disk c.args.blank.now columns mid old m.new.devices made.0 c.requires.array made.1 are in
    can-after g.D.Disk (LosesDevice g.D.Disk columns old m.new.devices) (IsMapSector columns) columns mid old m.new.devices (marks_dies g.D.Disk c.args.blank.now columns mid old m.new.devices marks) are.frame c.requires.array

pub close_anew-requires-clause-columns : goal.close_anew-requires-clause-columns
close_anew-requires-clause-columns g c =
    let e = c.args.hand.now.ending in
    let columns = e.columns.items in
    let old = c.args.devices.now in
    let m = c.mark_all in
    let own = sym e.columns.ok.0 in
    let same = whole_slice e.columns.len m.new.columns columns own (m.auto.columns ∙ (ap length c.as_mut_slice.ensures.value ∙ own)) in
    let mid = take e.columns.len (m.new.columns ++ drop (length m.new.columns) columns) in
    let made = m.ensures.marked in
    let are = subst (λ l. AreMarked g.D.Disk (length columns) made.0 columns l old m.new.devices) (sym same)
    (subst (λ l. AreMarked g.D.Disk (length l) made.0 l m.new.columns old m.new.devices) c.as_mut_slice.ensures.value made.2) in
    let marks = marks_all g.D.Disk c.args.blank.now columns mid old m.new.devices made.0 c.requires.array made.1 are in
    let dies = any_death (LosesDevice g.D.Disk columns old m.new.devices) columns mid (marks_dies g.D.Disk c.args.blank.now columns mid old m.new.devices marks) in
    settable_after (g.L.Layout.shape c.args.layout.now) columns mid dies (c.deaths_bring_no_unit_back.ensures.filling columns mid dies) (c.deaths_bring_no_unit_back.ensures.spread columns mid dies) c.requires.columns

pub returns-then-count_devices-had-clause-tried : goal.returns-then-count_devices-had-clause-tried
returns-then-count_devices-had-clause-tried g c =
    let e = c.args.hand.now.ending in
    let columns = e.columns.items in
    let old = c.args.devices.now in
    let m = c.mark_all in
    let own = sym e.columns.ok.0 in
    let same = whole_slice e.columns.len m.new.columns columns own (m.auto.columns ∙ (ap length c.as_mut_slice.ensures.value ∙ own)) in
    let mid = take e.columns.len (m.new.columns ++ drop (length m.new.columns) columns) in
    let made = m.ensures.marked in
    let are = subst (λ l. AreMarked g.D.Disk (length columns) made.0 columns l old m.new.devices) (sym same)
    (subst (λ l. AreMarked g.D.Disk (length l) made.0 l m.new.columns old m.new.devices) c.as_mut_slice.ensures.value made.2) in
    let marks = marks_all g.D.Disk c.args.blank.now columns mid old m.new.devices made.0 c.requires.array made.1 are in
    let none : c.args.hand.now.ending.lost ≡ None = none_of c.args.hand.now.ending.lost (sym c.is_some.ensures ∙ c.if-is_some.false) in
    subst (λ o. TriesToClear g.D.Disk c.args.blank.now c.args.label.now c.args.label.now columns mid old m.new.devices o o true) (sym none) (refl, marks, marks_same g.D.Disk c.args.blank.now columns mid old m.new.devices marks (omega (arith, c.if-count_devices-had.true, c.count_devices.ensures, c.count_devices-had.ensures, ap device_count c.deref.ensures.value, ap device_count c.deref-2.ensures.value)), refl)

pub returns-clause-tried : goal.returns-clause-tried
returns-clause-tried g c =
    let e = c.args.hand.now.ending in
    let columns = e.columns.items in
    let old = c.args.devices.now in
    let m = c.mark_all in
    let own = sym e.columns.ok.0 in
    let same = whole_slice e.columns.len m.new.columns columns own (m.auto.columns ∙ (ap length c.as_mut_slice.ensures.value ∙ own)) in
    let mid = take e.columns.len (m.new.columns ++ drop (length m.new.columns) columns) in
    let made = m.ensures.marked in
    let are = subst (λ l. AreMarked g.D.Disk (length columns) made.0 columns l old m.new.devices) (sym same)
    (subst (λ l. AreMarked g.D.Disk (length l) made.0 l m.new.columns old m.new.devices) c.as_mut_slice.ensures.value made.2) in
    let marks = marks_all g.D.Disk c.args.blank.now columns mid old m.new.devices made.0 c.requires.array made.1 are in
    let none : c.args.hand.now.ending.lost ≡ None = none_of c.args.hand.now.ending.lost (sym c.is_some.ensures ∙ c.if-is_some.false) in
    let a = c.close_anew in
    let fewer = marks_fewer g.D.Disk c.args.blank.now columns mid old m.new.devices marks (λ same. omega (arith, same, c.if-count_devices-had.false, c.count_devices.ensures, c.count_devices-had.ensures, ap device_count c.deref.ensures.value, ap device_count c.deref-2.ensures.value)) in
    subst (λ o. TriesToClear g.D.Disk c.args.blank.now c.args.label.now a.new.label columns a.new.hand.ending.columns.items old a.new.devices o a.new.hand.ending.lost false) (sym none) (mid, m.new.devices, marks, fewer, mapped_closed g.D.Disk true c.args.label.now a.new.label mid a.new.hand.ending.columns.items m.new.devices a.new.devices a.new.hand.ending.lost a.ensures.closed)
