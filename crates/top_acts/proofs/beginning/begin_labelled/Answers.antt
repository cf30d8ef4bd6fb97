use Rattle.std.proofs.Common.{◌≡◌, ◌∙◌, ap, subst, sym, None, arith}
use Rattle.std.specs.Prelude.{is_some}
use Rattle.raid_map.specs.Sweeping.{marks_stripe}
use Rattle.eng_cols.specs.Stripes.{states_of}
use Rattle.top_close.specs.Ended.{IsLossBy}
use Rattle.top_close.specs.Stage.{DiesIn}
use Rattle.top_rounds.proofs.RoundLaws.{any_death}
use Rattle.top_acts.specs.Begun.{HasBegun, MayBegin}
use Rattle.top_acts.specs.Sweeps.{Marked, Over, notice_seen, sweep_of, sweeps_seen}
use Rattle.top_acts.proofs.Announced.{IsAnnounced, MayAnnounce, announced}
use Rattle.top_acts.proofs.Begins.{begun_only, begun_swept}
use Rattle.top_acts.proofs.Ended.{no_loss}
use Rattle.top_acts.proofs.Having.{acts_after}
use Rattle.top_acts.proofs.Named.{apart_in}
use Rattle.top_acts.proofs.Tried.{none_of}
use Rattle.top_acts.proofs.beginning.begin_labelled.Goals as goal

pub returns-then-is_some-clause-begun : goal.returns-then-is_some-clause-begun
returns-then-is_some-clause-begun g c =
    let y = g.L.Layout.shape c.args.layout.now in
    let notice = notice_seen c.args.opening.notice in
    let label = c.args.label.now in
    let a = c.announce in
    let columns = c.args.hand.now.ending.columns.items in
    let mid = a.new.hand.ending.columns.items in
    let old = c.args.devices.now in
    let dev = a.new.devices in
    let lost = a.new.hand.ending.lost in
    let told = announced g.D.Disk y notice lost label a.new.label columns mid old dev c.requires.can.labels.have.apart a.ensures.opens in
    begun_only g.D.Disk y notice (sweeps_seen c.args.opening.sweeps) label a.new.label columns mid old dev lost c.requires.can.labels.columns_most c.requires.can.settable.filling
    (λ e. no_loss (ap is_some (sym e) ∙ (sym c.is_some.ensures ∙ c.if-is_some.true))) a.ensures.lost told

pub returns-then-is_some-clause-can : goal.returns-then-is_some-clause-can
returns-then-is_some-clause-can g c =
    let y = g.L.Layout.shape c.args.layout.now in
    let notice = notice_seen c.args.opening.notice in
    let label = c.args.label.now in
    let a = c.announce in
    let columns = c.args.hand.now.ending.columns.items in
    let mid = a.new.hand.ending.columns.items in
    let old = c.args.devices.now in
    let dev = a.new.devices in
    let lost = a.new.hand.ending.lost in
    let told = announced g.D.Disk y notice lost label a.new.label columns mid old dev c.requires.can.labels.have.apart a.ensures.opens in
    let dies = any_death (DiesIn g.D.Disk lost columns old dev) columns mid told.stage.dies in
    acts_after g.D.Disk y (DiesIn g.D.Disk lost columns old dev) (MayAnnounce notice columns) columns mid old dev told.stage.dies (apart_in g.D.Disk lost columns mid old dev told.stage.dies) told.stage.frame
    (c.deaths_bring_no_unit_back.ensures.filling columns mid dies) (c.deaths_bring_no_unit_back.ensures.spread columns mid dies) c.requires.can

pub returns-in-Nothing-clause-begun : goal.returns-in-Nothing-clause-begun
returns-in-Nothing-clause-begun g c =
    let y = g.L.Layout.shape c.args.layout.now in
    let notice = notice_seen c.args.opening.notice in
    let label = c.args.label.now in
    let a = c.announce in
    let columns = c.args.hand.now.ending.columns.items in
    let mid = a.new.hand.ending.columns.items in
    let old = c.args.devices.now in
    let dev = a.new.devices in
    let lost = a.new.hand.ending.lost in
    let told = announced g.D.Disk y notice lost label a.new.label columns mid old dev c.requires.can.labels.have.apart a.ensures.opens in
    begun_only g.D.Disk y notice (sweeps_seen c.args.opening.sweeps) label a.new.label columns mid old dev lost c.requires.can.labels.columns_most c.requires.can.settable.filling
    (λ e. ap sweeps_seen c.in-Nothing.is) a.ensures.lost told

pub returns-in-Nothing-clause-can : goal.returns-in-Nothing-clause-can
returns-in-Nothing-clause-can g c =
    let y = g.L.Layout.shape c.args.layout.now in
    let notice = notice_seen c.args.opening.notice in
    let label = c.args.label.now in
    let a = c.announce in
    let columns = c.args.hand.now.ending.columns.items in
    let mid = a.new.hand.ending.columns.items in
    let old = c.args.devices.now in
    let dev = a.new.devices in
    let lost = a.new.hand.ending.lost in
    let told = announced g.D.Disk y notice lost label a.new.label columns mid old dev c.requires.can.labels.have.apart a.ensures.opens in
    let dies = any_death (DiesIn g.D.Disk lost columns old dev) columns mid told.stage.dies in
    acts_after g.D.Disk y (DiesIn g.D.Disk lost columns old dev) (MayAnnounce notice columns) columns mid old dev told.stage.dies (apart_in g.D.Disk lost columns mid old dev told.stage.dies) told.stage.frame
    (c.deaths_bring_no_unit_back.ensures.filling columns mid dies) (c.deaths_bring_no_unit_back.ensures.spread columns mid dies) c.requires.can

pub sweep_labelled-requires-clause-can : goal.sweep_labelled-requires-clause-can
sweep_labelled-requires-clause-can g c =
    let y = g.L.Layout.shape c.args.layout.now in
    let notice = notice_seen c.args.opening.notice in
    let label = c.args.label.now in
    let a = c.announce in
    let columns = c.args.hand.now.ending.columns.items in
    let mid = a.new.hand.ending.columns.items in
    let old = c.args.devices.now in
    let dev = a.new.devices in
    let lost = a.new.hand.ending.lost in
    let told = announced g.D.Disk y notice lost label a.new.label columns mid old dev c.requires.can.labels.have.apart a.ensures.opens in
    let dies = any_death (DiesIn g.D.Disk lost columns old dev) columns mid told.stage.dies in
    acts_after g.D.Disk y (DiesIn g.D.Disk lost columns old dev) (MayAnnounce notice columns) columns mid old dev told.stage.dies (apart_in g.D.Disk lost columns mid old dev told.stage.dies) told.stage.frame
    (c.deaths_bring_no_unit_back.ensures.filling columns mid dies) (c.deaths_bring_no_unit_back.ensures.spread columns mid dies) c.requires.can

pub returns-in-Over-clause-begun : goal.returns-in-Over-clause-begun
returns-in-Over-clause-begun g c =
    let y = g.L.Layout.shape c.args.layout.now in
    let notice = notice_seen c.args.opening.notice in
    let label = c.args.label.now in
    let a = c.announce in
    let columns = c.args.hand.now.ending.columns.items in
    let mid = a.new.hand.ending.columns.items in
    let old = c.args.devices.now in
    let dev = a.new.devices in
    let lost = a.new.hand.ending.lost in
    let told = announced g.D.Disk y notice lost label a.new.label columns mid old dev c.requires.can.labels.have.apart a.ensures.opens in
    let none : lost ≡ None = none_of lost (sym c.is_some.ensures ∙ c.if-is_some.false) in
    let kept = subst (λ o. IsAnnounced g.D.Disk y notice label a.new.label columns mid old dev o) none told in
    let fewer = c.deaths_bring_no_unit_back.ensures.filling columns mid (any_death (DiesIn g.D.Disk lost columns old dev) columns mid told.stage.dies) in
    let s = c.sweep_labelled in
    let begun = begun_swept g.D.Disk y (g.met.L.Layout.is_layout c.args.layout.now) notice (Over (sweep_of c.in-Over.kind)) (λ e. absurd (let u : ⊥ = cc in u)) label a.new.label s.new.label columns mid s.new.hand.ending.columns.items old dev s.new.devices s.new.hand.ending.lost s.result
    c.requires.can.array.order c.requires.can.labels.columns_most c.requires.can.settable.filling (omega (arith, fewer, c.requires.can.settable.filling)) (subst (IsLossBy y None (states_of y mid)) none a.ensures.lost) kept s.ensures.swept in
    subst (λ o. HasBegun g.D.Disk notice (sweeps_seen o) y label s.new.label columns s.new.hand.ending.columns.items old s.new.devices s.new.hand.ending.lost s.result) (sym c.in-Over.is) begun

pub returns-in-Over-clause-can : goal.returns-in-Over-clause-can
returns-in-Over-clause-can g c =
    let y = g.L.Layout.shape c.args.layout.now in
    let b = returns-in-Over-clause-begun g c in
    let notice = notice_seen c.args.opening.notice in
    let s = c.sweep_labelled in
    let columns = c.args.hand.now.ending.columns.items in
    let after = s.new.hand.ending.columns.items in
    let old = c.args.devices.now in
    let lost = s.new.hand.ending.lost in
    let dies = any_death (DiesIn g.D.Disk lost columns old s.new.devices) columns after b.stage.dies in
    acts_after g.D.Disk y (DiesIn g.D.Disk lost columns old s.new.devices) (MayBegin g.D.Disk notice (sweeps_seen c.args.opening.sweeps) y columns old) columns after old s.new.devices b.stage.dies (apart_in g.D.Disk lost columns after old s.new.devices b.stage.dies) b.stage.frame
    (c.deaths_bring_no_unit_back.ensures.filling columns after dies) (c.deaths_bring_no_unit_back.ensures.spread columns after dies) c.requires.can

pub sweep_marks-requires-clause-can : goal.sweep_marks-requires-clause-can
sweep_marks-requires-clause-can g c =
    let y = g.L.Layout.shape c.args.layout.now in
    let notice = notice_seen c.args.opening.notice in
    let label = c.args.label.now in
    let a = c.announce in
    let columns = c.args.hand.now.ending.columns.items in
    let mid = a.new.hand.ending.columns.items in
    let old = c.args.devices.now in
    let dev = a.new.devices in
    let lost = a.new.hand.ending.lost in
    let told = announced g.D.Disk y notice lost label a.new.label columns mid old dev c.requires.can.labels.have.apart a.ensures.opens in
    let dies = any_death (DiesIn g.D.Disk lost columns old dev) columns mid told.stage.dies in
    acts_after g.D.Disk y (DiesIn g.D.Disk lost columns old dev) (MayAnnounce notice columns) columns mid old dev told.stage.dies (apart_in g.D.Disk lost columns mid old dev told.stage.dies) told.stage.frame
    (c.deaths_bring_no_unit_back.ensures.filling columns mid dies) (c.deaths_bring_no_unit_back.ensures.spread columns mid dies) c.requires.can

pub returns-in-Marked-clause-begun : goal.returns-in-Marked-clause-begun
returns-in-Marked-clause-begun g c =
    let y = g.L.Layout.shape c.args.layout.now in
    let notice = notice_seen c.args.opening.notice in
    let label = c.args.label.now in
    let a = c.announce in
    let columns = c.args.hand.now.ending.columns.items in
    let mid = a.new.hand.ending.columns.items in
    let old = c.args.devices.now in
    let dev = a.new.devices in
    let lost = a.new.hand.ending.lost in
    let told = announced g.D.Disk y notice lost label a.new.label columns mid old dev c.requires.can.labels.have.apart a.ensures.opens in
    let none : lost ≡ None = none_of lost (sym c.is_some.ensures ∙ c.if-is_some.false) in
    let kept = subst (λ o. IsAnnounced g.D.Disk y notice label a.new.label columns mid old dev o) none told in
    let fewer = c.deaths_bring_no_unit_back.ensures.filling columns mid (any_death (DiesIn g.D.Disk lost columns old dev) columns mid told.stage.dies) in
    let s = c.sweep_marks in
    let begun = begun_swept g.D.Disk y (g.met.L.Layout.is_layout c.args.layout.now) notice (Marked (marks_stripe c.in-Marked.map.now)) (λ e. absurd (let u : ⊥ = cc in u)) label a.new.label s.new.label columns mid s.new.hand.ending.columns.items old dev s.new.devices s.new.hand.ending.lost s.result
    c.requires.can.array.order c.requires.can.labels.columns_most c.requires.can.settable.filling (omega (arith, fewer, c.requires.can.settable.filling)) (subst (IsLossBy y None (states_of y mid)) none a.ensures.lost) kept s.ensures.swept in
    subst (λ o. HasBegun g.D.Disk notice (sweeps_seen o) y label s.new.label columns s.new.hand.ending.columns.items old s.new.devices s.new.hand.ending.lost s.result) (sym c.in-Marked.is) begun

pub returns-in-Marked-clause-can : goal.returns-in-Marked-clause-can
returns-in-Marked-clause-can g c =
    let y = g.L.Layout.shape c.args.layout.now in
    let b = returns-in-Marked-clause-begun g c in
    let notice = notice_seen c.args.opening.notice in
    let s = c.sweep_marks in
    let columns = c.args.hand.now.ending.columns.items in
    let after = s.new.hand.ending.columns.items in
    let old = c.args.devices.now in
    let lost = s.new.hand.ending.lost in
    let dies = any_death (DiesIn g.D.Disk lost columns old s.new.devices) columns after b.stage.dies in
    acts_after g.D.Disk y (DiesIn g.D.Disk lost columns old s.new.devices) (MayBegin g.D.Disk notice (sweeps_seen c.args.opening.sweeps) y columns old) columns after old s.new.devices b.stage.dies (apart_in g.D.Disk lost columns after old s.new.devices b.stage.dies) b.stage.frame
    (c.deaths_bring_no_unit_back.ensures.filling columns after dies) (c.deaths_bring_no_unit_back.ensures.spread columns after dies) c.requires.can
