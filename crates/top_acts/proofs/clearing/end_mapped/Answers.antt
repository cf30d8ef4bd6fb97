use Rattle.std.proofs.Common.{false, true, refl, subst, sym}
use Rattle.std.specs.Prelude.{option_map}
use Rattle.top_acts.specs.Cleared.{EndsInSteps, EndsMapped, EndsMappedSettled}
use Rattle.top_acts.proofs.Clears.{mapped_closed}
use Rattle.top_acts.proofs.clearing.end_mapped.Goals as goal

pub returns-in-Some-clause-ends : goal.returns-in-Some-clause-ends
returns-in-Some-clause-ends g c =
    let e = c.end_and_clear in
    subst (λ o. EndsMapped g.D.Disk (option_map (λ m. m.now) o) false c.args.label.now e.new.label c.args.hand.now.ending.columns.items e.new.hand.ending.columns.items c.args.devices.now e.new.devices e.new.hand.ending.lost) (sym c.in-Some.is) e.ensures.ends

pub returns-in-Some-clause-first : goal.returns-in-Some-clause-first
returns-in-Some-clause-first g c none =
    let e = c.end_and_clear in
    subst (λ o. EndsMappedSettled g.D.Disk (option_map (λ m. m.now) o) c.args.label.now e.new.label c.args.hand.now.ending.columns.items e.new.hand.ending.columns.items c.args.devices.now e.new.devices e.new.hand.ending.lost) (sym c.in-Some.is) (e.ensures.first none)

pub returns-in-None-clause-ends : goal.returns-in-None-clause-ends
returns-in-None-clause-ends g c =
    let e = c.end_labelled in
    subst (λ o. EndsMapped g.D.Disk (option_map (λ m. m.now) o) false c.args.label.now e.new.label c.args.hand.now.ending.columns.items e.new.hand.ending.columns.items c.args.devices.now e.new.devices e.new.hand.ending.lost) (sym c.in-None.is)
    (mapped_closed g.D.Disk false c.args.label.now e.new.label c.args.hand.now.ending.columns.items e.new.hand.ending.columns.items c.args.devices.now e.new.devices e.new.hand.ending.lost e.ensures.closed)

pub returns-in-None-clause-first : goal.returns-in-None-clause-first
returns-in-None-clause-first g c none =
    let e = c.end_labelled in
    let s = e.ensures.first none in
    subst (λ o. EndsMappedSettled g.D.Disk (option_map (λ m. m.now) o) c.args.label.now e.new.label c.args.hand.now.ending.columns.items e.new.hand.ending.columns.items c.args.devices.now e.new.devices e.new.hand.ending.lost) (sym c.in-None.is)
    (record { mid = s.mid; dev = s.dev; settles = s.settles; ends = mapped_closed g.D.Disk true c.args.label.now e.new.label s.mid e.new.hand.ending.columns.items s.dev e.new.devices e.new.hand.ending.lost s.closes })

pub returns-in-Some-clause-steps : goal.returns-in-Some-clause-steps
returns-in-Some-clause-steps g c =
    let e = c.end_and_clear in
    subst (λ o. EndsInSteps g.D.Disk (option_map (λ m. m.now) o) (g.L.Layout.shape c.args.layout.now) c.args.hand.now.ending.lost c.args.label.now e.new.label c.args.hand.now.ending.columns.items e.new.hand.ending.columns.items c.args.devices.now e.new.devices e.new.hand.ending.lost) (sym c.in-Some.is) e.ensures.steps

pub returns-in-None-clause-steps : goal.returns-in-None-clause-steps
returns-in-None-clause-steps g c =
    let e = c.end_labelled in
    subst (λ o. EndsInSteps g.D.Disk (option_map (λ m. m.now) o) (g.L.Layout.shape c.args.layout.now) c.args.hand.now.ending.lost c.args.label.now e.new.label c.args.hand.now.ending.columns.items e.new.hand.ending.columns.items c.args.devices.now e.new.devices e.new.hand.ending.lost) (sym c.in-None.is)
    (record { mid = e.new.hand.ending.columns.items; dev = e.new.devices; first = e.new.label; behind = e.new.hand.ending.lost; closes = mapped_closed g.D.Disk false c.args.label.now e.new.label c.args.hand.now.ending.columns.items e.new.hand.ending.columns.items c.args.devices.now e.new.devices e.new.hand.ending.lost e.ensures.closed; behind_is = e.ensures.lost; clears = (refl, refl, refl, refl) })
