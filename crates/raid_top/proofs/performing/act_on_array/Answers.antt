use Rattle.std.proofs.Common.{sym, subst, ◌∙◌}
use Rattle.std.proofs.lemmas.Result.{IfOk-weaker}
use Rattle.top_bay.specs.Views.{asked_seen}
use Rattle.top_duty.specs.Views.{admitted_by}
use Rattle.top_duty.specs.Opening.{sizes_of}
use Rattle.top_duty.proofs.Labels.{has_labels}
use Rattle.top_open.specs.Opening.{opened_seen}
use Rattle.top_words.specs.Views.{action_seen}
use Rattle.raid_top.specs.Served.{IsRun}
use Rattle.raid_top.specs.Views.{outcome_seen}
use Rattle.raid_top.proofs.Orders.{run_does, serves}
use Rattle.raid_top.proofs.performing.act_on_array.Goals as goal

pub alter_array-requires-clause-order : goal.alter_array-requires-clause-order
alter_array-requires-clause-order g c = sym c.order_of.ensures ∙ c.in-Some.is

pub run_array-requires-clause-run : goal.run_array-requires-clause-run
run_array-requires-clause-run g c κs w =
    let k = asked_seen c.args.asked in
    let o = opened_seen c.args.ready.opened in
    serves k.command.action k.comp o.newest k.conf o.rows c.requires.kind c.requires.within.known
    (λ need. has_labels k (sizes_of g.D.Disk.size c.args.devices.items) c.requires.ready.0 o c.requires.ready.1.ready.opened need)
    (sym c.order_of.ensures ∙ c.in-None.is)

pub returns-in-None-clause-does : goal.returns-in-None-clause-does
returns-in-None-clause-does g c =
    let k = asked_seen c.args.asked in
    let o = opened_seen c.args.ready.opened in
    let r = c.run_array.result in
    let run : IsRun k.command.action = serves k.command.action k.comp o.newest k.conf o.rows c.requires.kind c.requires.within.known
    (λ need. has_labels k (sizes_of g.D.Disk.size c.args.devices.items) c.requires.ready.0 o c.requires.ready.1.ready.opened need)
    (sym c.order_of.ensures ∙ c.in-None.is) in
    IfOk-weaker r.served.came _ _ (λ x h.
    run_does g.D.Disk (admitted_by k c.args.ready) c.args.ready.failed c.args.devices.items r.served.devices.items (action_seen r.action) (outcome_seen (action_seen r.action) r.conf x)
    (subst (λ a. IsRun (action_seen a)) (sym c.run_array.ensures.action) run) h) c.run_array.ensures.does
