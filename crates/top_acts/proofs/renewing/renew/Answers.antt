use Rattle.std.proofs.Common.{◌≡◌, ◌∙◌, None, false, ap, refl, subst, sym, arith}
use Rattle.std.specs.Prelude.{nat_lt, option_map}
use Rattle.eng_cols.specs.Stripes.{states_of}
use Rattle.top_close.specs.Ended.{IsLossBy}
use Rattle.top_close.specs.Stage.{DiesIn}
use Rattle.top_rounds.proofs.RoundLaws.{any_death}
use Rattle.top_acts.specs.Begun.{HasBegun}
use Rattle.top_acts.specs.Cleared.{EndsInSteps, EndsMapped, EndsMappedSettled}
use Rattle.top_acts.specs.Mapped.{LooksAtMaps}
use Rattle.top_acts.specs.Sweeps.{Over, Round, sweep_of}
use Rattle.top_acts.proofs.Having.{marks_of}
use Rattle.top_acts.proofs.Held.{held_as}
use Rattle.top_acts.proofs.Looked.{looks_dies}
use Rattle.top_acts.proofs.Renews.{clear_if, renewed_closed, renewed_lost, renewed_unread}
use Rattle.top_acts.proofs.Tried.{none_of}
use Rattle.top_acts.proofs.renewing.renew.Goals as goal

pub returns-then-is_some-clause-renewed : goal.returns-then-is_some-clause-renewed
returns-then-is_some-clause-renewed g c =
    let l = c.look_at_maps in
    let after = l.new.hand.ending.columns.items in
    renewed_unread g.D.Disk c.args.kind (g.L.Layout.shape c.args.layout.now) c.args.maps.now.union l.new.union c.args.hand.now.ending.columns.items after c.args.devices.now l.new.devices c.args.label.now after l.new.hand.ending.lost
    (sym c.is_some.ensures ∙ c.if-is_some.true) l.ensures.looks.lost_is l.ensures.looks

pub returns-then-is_some-2-clause-renewed : goal.returns-then-is_some-2-clause-renewed
returns-then-is_some-2-clause-renewed g c =
    let y = g.L.Layout.shape c.args.layout.now in
    let blank = c.args.maps.now.union in
    let l = c.look_at_maps in
    let b = c.begin_labelled-count in
    let columns = c.args.hand.now.ending.columns.items in
    let read = l.new.hand.ending.columns.items in
    let old = c.args.devices.now in
    let none : l.new.hand.ending.lost ≡ None = none_of l.new.hand.ending.lost (sym c.is_some.ensures ∙ c.if-is_some.false) in
    let looks = subst (λ o. LooksAtMaps g.D.Disk y blank l.new.union columns read old l.new.devices o) none l.ensures.looks in
    renewed_lost g.D.Disk c.args.kind y blank l.new.union columns read old l.new.devices (g.met.L.Layout.is_layout c.args.layout.now) c.requires.can.array.order c.requires.can.settable.filling looks
    c.args.label.now b.new.label b.new.hand.ending.columns.items b.new.devices b.new.hand.ending.lost b.result (sym c.is_some-2.ensures ∙ c.if-is_some-2.true) b.ensures.lost b.ensures.begun

pub end_mapped-requires-clause-marks : goal.end_mapped-requires-clause-marks
end_mapped-requires-clause-marks g c = let b = c.begin_labelled-count in marks_of g.D.Disk (g.L.Layout.shape c.args.layout.now) b.new.hand.ending.columns.items b.new.devices b.ensures.can

pub end_mapped-requires-clause-held : goal.end_mapped-requires-clause-held
end_mapped-requires-clause-held g c = let b = c.begin_labelled-count in held_as b.new.hand.ending.columns.items b.new.label b.new.label.counter 1 (omega arith) b.ensures.held

pub returns-clause-renewed : goal.returns-clause-renewed
returns-clause-renewed g c =
    let y = g.L.Layout.shape c.args.layout.now in
    let blank = c.args.maps.now.union in
    let l = c.look_at_maps in
    let b = c.begin_labelled-count in
    let e = c.end_mapped in
    let union = l.new.union in
    let columns = c.args.hand.now.ending.columns.items in
    let read = l.new.hand.ending.columns.items in
    let mid = b.new.hand.ending.columns.items in
    let after = e.new.hand.ending.columns.items in
    let old = c.args.devices.now in
    let looked = l.new.devices in
    let dev = b.new.devices in
    let ended = e.new.hand.ending.lost in
    let first = b.new.label in
    let before = record first { clean = 1 } in
    let unread : l.new.hand.ending.lost ≡ None = none_of l.new.hand.ending.lost (sym c.is_some.ensures ∙ c.if-is_some.false) in
    let none : b.new.hand.ending.lost ≡ None = none_of b.new.hand.ending.lost (sym c.is_some-2.ensures ∙ c.if-is_some-2.false) in
    let looks = subst (λ o. LooksAtMaps g.D.Disk y blank union columns read old looked o) unread l.ensures.looks in
    let begun = subst (λ o. HasBegun g.D.Disk Round (Over (sweep_of c.args.kind)) y c.args.label.now first read mid looked dev o b.result) none b.ensures.begun in
    let clear = ap (option_map (λ m. m.now)) c.then_some-clear.ensures ∙ clear_if _ blank union _ (λ m. m.now) (ap (nat_lt 0) c.count.ensures) (c.requires.maps.marks ∙ sym c.requires.maps.union) in
    let ends = subst (λ o. EndsMapped g.D.Disk o false before e.new.label mid after dev e.new.devices ended) clear e.ensures.ends in
    let settles = subst (λ o. EndsMappedSettled g.D.Disk o before e.new.label mid after dev e.new.devices ended) clear (e.ensures.first none) in
    let steps = subst (λ o. EndsInSteps g.D.Disk o y None before e.new.label mid after dev e.new.devices ended) clear (subst (λ o. EndsInSteps g.D.Disk (option_map (λ m. m.now) c.then_some-clear.result) y o before e.new.label mid after dev e.new.devices ended) none e.ensures.steps) in
    let lost_is = subst (λ o. IsLossBy y o (states_of y after) ended) none e.ensures.lost in
    let few_read = c.deaths_bring_no_unit_back.ensures.filling columns read (any_death (DiesIn g.D.Disk None columns old looked) columns read (looks_dies g.D.Disk y None blank union columns read old looked looks)) in
    let few_mid = c.deaths_bring_no_unit_back.ensures.filling read mid (any_death (DiesIn g.D.Disk None read looked dev) read mid begun.stage.dies) in
    renewed_closed g.D.Disk c.args.kind y blank union columns read old looked (g.met.L.Layout.is_layout c.args.layout.now) c.requires.can.array.order c.requires.can.settable.filling looks
    c.args.label.now first before e.new.label mid after dev e.new.devices ended b.result c.done.result (omega (arith, few_read, few_mid, c.requires.can.settable.filling)) refl refl c.done.ensures lost_is begun ends settles steps
