use Rattle.std.proofs.Common.{sym, ◌∙◌}
use Rattle.top_run.specs.Works.{service_seen, work_of}
use Rattle.top_labelled.proofs.Effect.{begun-effect, effect-of}
use Rattle.top_labelled.proofs.Steps.{as-many, came-to-loss, came-to-run, can-serve, left-many, none-from, run-stands}
use Rattle.top_labelled.proofs.running.run_labelled.Goals as goal

pub returns-then-is_some-clause-came : goal.returns-then-is_some-clause-came
returns-then-is_some-clause-came g c =
    came-to-loss g.L.Layout g.D.Disk c.args.labelled c.begun-started.result c.requires.can c.begun-started.ensures c.lost.result.0 c.lost.result.1 (sym c.is_some.ensures ∙ c.if-is_some.true) c.lost.ensures

pub returns-then-is_some-clause-many : goal.returns-then-is_some-clause-many
returns-then-is_some-clause-many g c = left-many g.L.Layout g.D.Disk c.args.labelled c.begun-started.result c.requires.can c.begun-started.ensures c.lost.result.0 c.lost.result.1 c.lost.ensures

pub served-service-requires-clause-can : goal.served-service-requires-clause-can
served-service-requires-clause-can g c κs within =
    can-serve g.L.Layout g.D.Disk c.args.labelled c.begun-started.result c.requires.can c.begun-started.ensures (none-from c.begun-started.result.lost (sym c.is_some.ensures ∙ c.if-is_some.false)) c.in-Some.room c.in-Some.ensures

pub returns-clause-came : goal.returns-clause-came
returns-clause-came g c =
    came-to-run g.L.Layout g.D.Disk c.args.labelled c.begun-started.result c.requires.can c.begun-started.ensures (none-from c.begun-started.result.lost (sym c.is_some.ensures ∙ c.if-is_some.false))
    (service_seen c.served-service.result.0) c.served-service.result.1.items c.served-service.ensures

pub returns-clause-stands : goal.returns-clause-stands
returns-clause-stands g c =
    run-stands g.L.Layout g.D.Disk c.args.labelled c.begun-started.result c.requires.can c.begun-started.ensures (none-from c.begun-started.result.lost (sym c.is_some.ensures ∙ c.if-is_some.false))
    (service_seen c.served-service.result.0) c.served-service.result.1.items c.served-service.ensures

pub returns-clause-many : goal.returns-clause-many
returns-clause-many g c =
    as-many g.L.Layout g.D.Disk c.args.labelled c.begun-started.result c.requires.can c.begun-started.ensures (none-from c.begun-started.result.lost (sym c.is_some.ensures ∙ c.if-is_some.false))
    (service_seen c.served-service.result.0) c.served-service.result.1.items c.served-service.ensures

pub returns-then-is_some-clause-effect : goal.returns-then-is_some-clause-effect
returns-then-is_some-clause-effect g c = effect-of g.L.Layout g.D.Disk c.args.labelled c.lost.result.0 c.lost.result.1.items
    (came-to-loss g.L.Layout g.D.Disk c.args.labelled c.begun-started.result c.requires.can c.begun-started.ensures c.lost.result.0 c.lost.result.1 (sym c.is_some.ensures ∙ c.if-is_some.true) c.lost.ensures)

pub returns-clause-effect : goal.returns-clause-effect
returns-clause-effect g c =
    begun-effect g.D.Disk (work_of g.L.Layout c.args.labelled.setup c.args.labelled.start) c.args.labelled.label c.args.labelled.setup.devices.items (service_seen c.served-service.result.0) c.served-service.result.1.items c.args.labelled.failed c.args.labelled.map
    (came-to-run g.L.Layout g.D.Disk c.args.labelled c.begun-started.result c.requires.can c.begun-started.ensures (none-from c.begun-started.result.lost (sym c.is_some.ensures ∙ c.if-is_some.false))
    (service_seen c.served-service.result.0) c.served-service.result.1.items c.served-service.ensures)
