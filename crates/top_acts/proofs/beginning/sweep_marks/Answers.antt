use Rattle.std.proofs.Common.{◌∙◌, ◌≤◌, arith, sym}
use Rattle.std.specs.Prelude.{count_by}
use Rattle.eng_cols.specs.Cols.{is_set_filling}
use Rattle.eng_cols.specs.Stripes.{states_of}
use Rattle.raid_map.specs.Sweeping.{marks_stripe}
use Rattle.raid_recon.specs.Array.{Failed}
use Rattle.top_rounds.proofs.RoundLaws.{any_death, can-after}
use Rattle.top_acts.specs.Begun.{MaySweep}
use Rattle.top_acts.specs.Sweeps.{Marked}
use Rattle.top_acts.proofs.Begins.{sweeps_kept, sweeps_lost}
use Rattle.top_acts.proofs.Held.{held_after}
use Rattle.top_acts.proofs.Swept.{did_marked}
use Rattle.top_acts.proofs.Tried.{none_of}
use Rattle.top_acts.proofs.beginning.sweep_marks.Goals as goal

pub write_lost-requires-clause-array : goal.write_lost-requires-clause-array
write_lost-requires-clause-array g c =
    let y = g.L.Layout.shape c.args.layout.now in
    let columns = c.args.hand.now.ending.columns.items in
    let old = c.args.devices.now in
    let s = c.sweep_marks_and_judge-count in
    let did = did_marked g.D.Disk y (marks_stripe c.args.map.now) columns s.new.hand.ending.columns.items old s.new.devices s.result (g.met.L.Layout.is_layout c.args.layout.now).checks_most s.ensures.swept in
    can-after g.D.Disk (Failed g.D.Disk (states_of y columns) old s.new.devices) (MaySweep g.D.Disk (Marked (marks_stripe c.args.map.now)) y columns old) columns s.new.hand.ending.columns.items old s.new.devices
    did.dies did.frame c.requires.can.labels

pub returns-then-is_some-clause-swept : goal.returns-then-is_some-clause-swept
returns-then-is_some-clause-swept g c =
    let y = g.L.Layout.shape c.args.layout.now in
    let s = c.sweep_marks_and_judge-count in
    let w = c.write_lost in
    let columns = c.args.hand.now.ending.columns.items in
    let mid = s.new.hand.ending.columns.items in
    let did = did_marked g.D.Disk y (marks_stripe c.args.map.now) columns mid c.args.devices.now s.new.devices s.result (g.met.L.Layout.is_layout c.args.layout.now).checks_most s.ensures.swept in
    let dies = any_death (Failed g.D.Disk (states_of y columns) c.args.devices.now s.new.devices) columns mid did.dies in
    let few : count_by is_set_filling mid ≤ 1 = omega (arith, c.deaths_bring_no_unit_back.ensures.filling columns mid dies, c.requires.can.settable.filling) in
    sweeps_lost g.D.Disk y (Marked (marks_stripe c.args.map.now)) c.args.label.now w.new.label columns mid w.new.hand.ending.columns.items c.args.devices.now s.new.devices w.new.devices w.new.hand.ending.lost s.new.hand.ending.lost s.result
    few w.ensures.lost (sym c.is_some.ensures ∙ c.if-is_some.true) s.ensures.lost s.ensures.swept did w.ensures.label w.ensures.rounds

pub returns-else-is_some-clause-swept : goal.returns-else-is_some-clause-swept
returns-else-is_some-clause-swept g c =
    let y = g.L.Layout.shape c.args.layout.now in
    let s = c.sweep_marks_and_judge-count in
    let columns = c.args.hand.now.ending.columns.items in
    let mid = s.new.hand.ending.columns.items in
    sweeps_kept g.D.Disk y (Marked (marks_stripe c.args.map.now)) c.args.label.now columns mid c.args.devices.now s.new.devices s.new.hand.ending.lost s.result
    (none_of s.new.hand.ending.lost (sym c.is_some.ensures ∙ c.if-is_some.false)) s.ensures.lost s.ensures.swept (did_marked g.D.Disk y (marks_stripe c.args.map.now) columns mid c.args.devices.now s.new.devices s.result (g.met.L.Layout.is_layout c.args.layout.now).checks_most s.ensures.swept)

pub write_lost-requires-clause-held : goal.write_lost-requires-clause-held
write_lost-requires-clause-held g c =
    let y = g.L.Layout.shape c.args.layout.now in
    let s = c.sweep_marks_and_judge-count in
    let did = did_marked g.D.Disk y (marks_stripe c.args.map.now) c.args.hand.now.ending.columns.items s.new.hand.ending.columns.items c.args.devices.now s.new.devices s.result (g.met.L.Layout.is_layout c.args.layout.now).checks_most s.ensures.swept in
    held_after c.args.hand.now.ending.columns.items s.new.hand.ending.columns.items c.args.label.now did.dies.count c.requires.held

pub returns-else-is_some-clause-held : goal.returns-else-is_some-clause-held
returns-else-is_some-clause-held g c =
    let y = g.L.Layout.shape c.args.layout.now in
    let s = c.sweep_marks_and_judge-count in
    let did = did_marked g.D.Disk y (marks_stripe c.args.map.now) c.args.hand.now.ending.columns.items s.new.hand.ending.columns.items c.args.devices.now s.new.devices s.result (g.met.L.Layout.is_layout c.args.layout.now).checks_most s.ensures.swept in
    held_after c.args.hand.now.ending.columns.items s.new.hand.ending.columns.items c.args.label.now did.dies.count c.requires.held
