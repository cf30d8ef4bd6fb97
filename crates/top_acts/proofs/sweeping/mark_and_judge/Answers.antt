use Rattle.std.proofs.Common.{◌∙◌, ap, length, subst, sym, None}
use Rattle.eng_cols.specs.Stripes.{states_of}
use Rattle.raid_map.specs.Marking.{AreMarked, CanBeMarked}
use Rattle.top_close.specs.Ended.{IsLossBy}
use Rattle.top_rounds.proofs.RoundLaws.{whole_slice}
use Rattle.top_acts.proofs.Having.{marks_of}
use Rattle.top_acts.proofs.Marked.{marks_all}
use Rattle.top_acts.proofs.sweeping.mark_and_judge.Goals as goal

pub mark_all-requires : goal.mark_all-requires
mark_all-requires g c = subst (λ l. CanBeMarked g.D.Disk l c.args.devices.now) (sym c.as_mut_slice-columns.ensures.value) (marks_of g.D.Disk (g.L.Layout.shape c.args.layout.now) c.args.hand.now.ending.columns.items c.args.devices.now c.requires.can)

pub returns-clause-lost : goal.returns-clause-lost
returns-clause-lost g c =
    let y = g.L.Layout.shape c.args.layout.now in
    let e = c.args.hand.now.ending in
    let m = c.mark_all in
    let own = sym e.columns.ok.0 in
    let same = whole_slice e.columns.len m.new.columns e.columns.items own (m.auto.columns ∙ (ap length c.as_mut_slice-columns.ensures.value ∙ own)) in
    subst (λ l. IsLossBy y None (states_of y l) c.loss_of-hand.result) (sym same) c.loss_of-hand.ensures.lost

pub returns-clause-marked : goal.returns-clause-marked
returns-clause-marked g c =
    let e = c.args.hand.now.ending in
    let old = c.args.devices.now in
    let m = c.mark_all in
    let own = sym e.columns.ok.0 in
    let same = whole_slice e.columns.len m.new.columns e.columns.items own (m.auto.columns ∙ (ap length c.as_mut_slice-columns.ensures.value ∙ own)) in
    let marked = m.ensures.marked in
    let are = subst (λ l. AreMarked g.D.Disk (length e.columns.items) marked.0 e.columns.items l old m.new.devices) (sym same)
    (subst (λ l. AreMarked g.D.Disk (length l) marked.0 l m.new.columns old m.new.devices) c.as_mut_slice-columns.ensures.value marked.2) in
    marks_all g.D.Disk c.args.map.now e.columns.items _ old m.new.devices marked.0 c.requires.can.labels marked.1 are
