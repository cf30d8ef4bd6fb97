use Rattle.std.proofs.Common.{sym, refl, subst}
use Rattle.std.specs.Prelude.{IfOk}
use Rattle.raid_conf.specs.Layouts.{shape_in}
use Rattle.top_bay.specs.Views.{asked_seen}
use Rattle.top_duty.specs.Views.{admitted_by}
use Rattle.top_duty.proofs.Fits.{fit_labelled}
use Rattle.top_open.specs.Opening.{opened_seen}
use Rattle.top_words.specs.Asked.{profile_of}
use Rattle.top_words.specs.Views.{action_seen}
use Rattle.raid_top.specs.Arrays.{MayDo}
use Rattle.raid_top.specs.Does.{DoesDeed}
use Rattle.raid_top.specs.Served.{ComesOfOrder}
use Rattle.raid_top.specs.Views.{outcome_seen}
use Rattle.raid_top.proofs.Orders.{may_do, order_does}
use Rattle.raid_top.proofs.Setups.{settable}
use Rattle.raid_top.proofs.performing.alter_array.Goals as goal

pub change-came-requires-clause-columns : goal.change-came-requires-clause-columns
change-came-requires-clause-columns g c = settable g.D.Disk (asked_seen c.args.asked) (opened_seen c.args.ready.opened) c.args.devices.items (shape_in c.args.ready.layout) c.requires.within c.requires.fit c.requires.ready.1.made.shape

pub change-came-requires-clause-labels : goal.change-came-requires-clause-labels
change-came-requires-clause-labels g c = fit_labelled g.D.Disk (asked_seen c.args.asked) (opened_seen c.args.ready.opened) c.args.devices.items c.requires.fit c.requires.within.conf

pub change-came-requires-clause-may : goal.change-came-requires-clause-may
change-came-requires-clause-may g c =
    let k = asked_seen c.args.asked in
    let o = opened_seen c.args.ready.opened in
    subst (λ y. MayDo g.D.Disk y o.columns c.args.order c.args.devices.items) (sym c.requires.ready.1.made.shape)
    (may_do g.D.Disk k o c.args.devices.items c.requires.within c.requires.fit k.command.action c.args.order refl c.requires.order)

pub returns-clause-does : goal.returns-clause-does
returns-clause-does g c =
    let k = asked_seen c.args.asked in
    let o = opened_seen c.args.ready.opened in
    let a = admitted_by k c.args.ready in
    let failed = c.args.ready.failed in
    let old = c.args.devices.items in
    let came = c.change-came.result.0 in
    let back = c.change-came.result.1 in
    let s = c.say-2.ensures in
    let r = c.say-2.result in
    subst (λ x. IfOk x (λ came. DoesDeed g.D.Disk a failed old r.served.devices.items (profile_of (action_seen r.action)).deed (outcome_seen (action_seen r.action) r.conf came))) (sym s.came)
    (subst (λ ds. DoesDeed g.D.Disk a failed old ds.items (profile_of (action_seen r.action)).deed (outcome_seen (action_seen r.action) r.conf came)) (sym s.devices)
    (subst (λ act. DoesDeed g.D.Disk a failed old back.items (profile_of (action_seen act)).deed (outcome_seen (action_seen act) r.conf came)) (sym s.action)
    (subst (λ conf. DoesDeed g.D.Disk a failed old back.items (profile_of k.command.action).deed (outcome_seen k.command.action conf came)) (sym s.conf)
    (order_does g.D.Disk a failed old back.items k.command.action k.conf c.args.order came c.requires.order
    (subst (λ y. ComesOfOrder g.D.Disk y o.columns old back.items c.args.order came) c.requires.ready.1.made.shape c.change-came.ensures)))))
