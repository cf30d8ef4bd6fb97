use Rattle.std.proofs.Common.{sym, subst}
use Rattle.top_run.specs.Works.{work_of}
use Rattle.raid_top.specs.declared.came.Came.{Came}
use Rattle.raid_top.specs.Served.{ComesLabelled}
use Rattle.raid_top.specs.Views.{CanBePrinted}
use Rattle.raid_top.proofs.Runs.{came_so, printed_so}
use Rattle.raid_top.proofs.running.run_with_labels.Goals as goal

pub returns-in-Ok-clause-came : goal.returns-in-Ok-clause-came
returns-in-Ok-clause-came g c =
    let l = c.args.labelled in
    let back = c.in-Ok.devices.items in
    subst (λ (x : Came). ComesLabelled g.D.Disk (work_of g.L.Layout l.setup l.start) l.label l.failed l.map l.setup.devices.items back x) (sym c.came_of.ensures)
    (came_so g.L.Layout g.D.Disk l c.in-Ok.outcome back c.in-Ok.ensures.came)

pub returns-in-Ok-clause-printed : goal.returns-in-Ok-clause-printed
returns-in-Ok-clause-printed g c =
    let l = c.args.labelled in
    subst (λ (x : Came). CanBePrinted x) (sym c.came_of.ensures)
    (printed_so g.L.Layout g.D.Disk l c.in-Ok.outcome c.in-Ok.devices.items c.in-Ok.ensures.came c.in-Ok.ensures.stands)
