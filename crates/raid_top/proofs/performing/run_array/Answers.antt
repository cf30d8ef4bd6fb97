use Rattle.std.proofs.Common.{ap, sym, refl, subst, ◌∙◌, length}
use Rattle.std.specs.Prelude.{◌+◌, All}
use Rattle.std.proofs.lemmas.Result.{IfOk-weaker}
use Rattle.lay_core.specs.Layout.{blocks_in}
use Rattle.raid_conf.specs.Layouts.{shape_of}
use Rattle.raid_conf.specs.contracts.layouts.AnyLayoutLayout.TheImpl as any
use Rattle.raid_script.specs.Asked.{AreFew, IsAsked}
use Rattle.top_bay.specs.Views.{asked_seen}
use Rattle.top_duty.proofs.Drawing.{either_asked}
use Rattle.top_duty.specs.Steps.{clients_by}
use Rattle.top_duty.specs.Views.{admitted_by, graphs_with, views_of}
use Rattle.top_duty.specs.Fit.{IsFit, IsStartIf}
use Rattle.top_duty.specs.Opening.{sizes_of}
use Rattle.top_open.specs.Opening.{opened_seen}
use Rattle.top_run.specs.Works as run_works
use Rattle.top_words.specs.Asked.{profile_of}
use Rattle.top_words.specs.Views.{action_seen}
use Rattle.raid_top.specs.Served.{AreUnfilledIf, CameOf, MayLabelIf}
use Rattle.raid_top.proofs.Orders.{run_writes}
use Rattle.raid_top.proofs.Runs.{came_does, scripted}
use Rattle.raid_top.proofs.Labels.{none_unlabelled, unfilled_unlabelled}
use Rattle.raid_top.proofs.Setups.{may_label, may_rebuild_if, may_serve}
use Rattle.raid_top.proofs.Works.{work_same}
use Rattle.raid_top.proofs.performing.run_array.Goals as goal

pub serve-requires-clause-may : goal.serve-requires-clause-may
serve-requires-clause-may g c κs w =
    let k = asked_seen c.args.asked in
    let o = opened_seen c.args.ready.opened in
    let made = c.in-Ok.ensures in
    let p = c.requires.ready.1 in
    may_serve any.ghosts g.D.Disk c.in-Ok.work.setup k o c.args.ready.start (views_of c.args.ready.joined.items) (sizes_of g.D.Disk.size c.args.devices.items) c.requires.ready.0 c.requires.within p.ready
    (subst (λ ds. IsFit g.D.Disk k o ds.items) (sym made.devices) c.requires.fit)
    (ap (λ l. any.ghosts.shape l) made.layout ∙ p.made.shape)
    (ap (λ v. v.items) made.columns)
    (ap (λ v. length v.items) made.devices ∙ c.requires.many)
    (made.clients (blocks_in (shape_of k.conf o.rows)) p.made.drawn)
    (subst (λ rows. All (All (IsAsked k.conf.columns (length (graphs_with k (views_of c.args.ready.joined.items))))) rows) p.made.drawn (p.made.asked k.conf.columns (length (graphs_with k (views_of c.args.ready.joined.items)))))
    (subst (λ rows. AreFew rows) p.made.drawn p.made.few)
    made.graphs
    made.trace

pub serve-requires-clause-label : goal.serve-requires-clause-label
serve-requires-clause-label g c κs w =
    let k = asked_seen c.args.asked in
    let o = opened_seen c.args.ready.opened in
    let made = c.in-Ok.ensures in
    let p = c.requires.ready.1 in
    let sizes = sizes_of g.D.Disk.size c.args.devices.items in
    let fit = subst (λ ds. IsFit g.D.Disk k o ds.items) (sym made.devices) c.requires.fit in
    subst (λ s. MayLabelIf any.ghosts g.D.Disk c.in-Ok.work.setup s c.in-Ok.work.newest) (sym made.start)
    (may_label any.ghosts g.D.Disk c.in-Ok.work.setup k o c.args.ready.start c.in-Ok.work.newest c.requires.within fit
    (run_writes k.command.action k.comp c.requires.run)
    (ap (λ v. v.items) made.columns) (sym made.parts.0)
    (may_rebuild_if any.ghosts g.D.Disk c.in-Ok.work.setup k o c.args.ready.start (views_of c.args.ready.joined.items) sizes c.requires.ready.0 c.requires.within p.ready fit
    (subst (λ ds. IsStartIf g.D.Disk k o ds.items c.args.ready.start) (sym made.devices) c.requires.start)
    (ap (λ l. any.ghosts.shape l) made.layout ∙ p.made.shape)
    (ap (λ v. v.items) made.columns)
    (made.clients (blocks_in (shape_of k.conf o.rows)) p.made.drawn)
    (subst (λ rows. All (All (IsAsked k.conf.columns (length (graphs_with k (views_of c.args.ready.joined.items))))) rows) p.made.drawn (p.made.asked k.conf.columns (length (graphs_with k (views_of c.args.ready.joined.items)))))
    (subst (λ rows. AreFew rows) p.made.drawn p.made.few)
    made.graphs
    made.trace)
    (none_unlabelled k sizes c.requires.ready.0 o c.args.ready.start p.ready.opened p.ready.starts))

pub serve-requires-clause-filling : goal.serve-requires-clause-filling
serve-requires-clause-filling g c κs w =
    let k = asked_seen c.args.asked in
    let o = opened_seen c.args.ready.opened in
    let made = c.in-Ok.ensures in
    let p = c.requires.ready.1 in
    subst (λ cols. AreUnfilledIf c.in-Ok.work.newest cols.items) (sym made.columns)
    (unfilled_unlabelled k (sizes_of g.D.Disk.size c.args.devices.items) c.requires.ready.0 o p.ready.opened c.in-Ok.work.newest (sym made.parts.0))

pub returns-clause-does : goal.returns-clause-does
returns-clause-does g c =
    let k = asked_seen c.args.asked in
    let o = opened_seen c.args.ready.opened in
    let made = c.in-Ok.ensures in
    let work = c.in-Ok.work in
    let setup = work.setup in
    let p = c.requires.ready.1 in
    let back = c.serve.result.devices.items in
    let graphs = length k.book + length k.joins in
    let asked = (profile_of k.command.action).map in
    let same = work_same any.ghosts setup work.start (admitted_by k c.args.ready)
    (ap (λ l. any.ghosts.shape l) made.layout ∙ p.made.shape)
    (ap (λ v. v.items) made.columns)
    (made.clients (blocks_in (shape_of k.conf o.rows)) p.made.drawn)
    made.graphs made.trace made.start in
    IfOk-weaker c.serve.result.came _ _ (λ x h.
    came_does g.D.Disk k o c.args.ready.start c.args.ready.failed (views_of c.args.ready.joined.items) c.args.devices.items back
    (scripted k.conf.columns graphs (clients_by k.command.action k.clients (blocks_in (shape_of k.conf o.rows)))
    (either_asked k.conf.columns graphs k.command.action k.clients (blocks_in (shape_of k.conf o.rows)) c.requires.within.asked
    (subst (λ rows. All (All (IsAsked k.conf.columns graphs)) rows) p.made.drawn (p.made.asked k.conf.columns graphs))))
    o.newest (action_seen c.args.asked.command.action) c.args.asked.conf x refl
    (subst (λ w. CameOf g.D.Disk w o.newest c.args.ready.failed asked c.args.devices.items back x) same
    (subst (λ m. CameOf g.D.Disk (run_works.work_of any.ghosts setup work.start) o.newest c.args.ready.failed m c.args.devices.items back x) made.map
    (subst (λ f. CameOf g.D.Disk (run_works.work_of any.ghosts setup work.start) o.newest f work.map c.args.devices.items back x) made.failed
    (subst (λ n. CameOf g.D.Disk (run_works.work_of any.ghosts setup work.start) n work.failed work.map c.args.devices.items back x) made.parts.0
    (subst (λ ds. CameOf g.D.Disk (run_works.work_of any.ghosts setup work.start) work.newest work.failed work.map ds.items back x) made.devices h)))))) c.serve.ensures.came
