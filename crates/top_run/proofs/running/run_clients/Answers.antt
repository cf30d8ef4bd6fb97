use Rattle.std.specs.Prelude.{None}
use Rattle.top_run.specs.Ran.{RanPlain}
use Rattle.top_run.specs.Works.{service_seen}
use Rattle.top_run.proofs.Columns.{may-end, none-closed}
use Rattle.top_run.proofs.All.{has-run, stands}
use Rattle.top_run.proofs.Effect.{took-effect}
use Rattle.top_run.specs.Works.{work_of}
use Rattle.top_run.proofs.running.run_clients.Goals as goal

pub ended-requires-clause-closed : goal.ended-requires-clause-closed
ended-requires-clause-closed g c = may-end g.L.Layout g.D.Disk c.args.setup c.in-Ok.closed c.requires.setup c.in-Ok.ensures.served

pub returns-in-Ok-clause-ran : goal.returns-in-Ok-clause-ran
returns-in-Ok-clause-ran g c =
    let none = none-closed g.L.Layout g.D.Disk c.args.setup c.in-Ok.closed c.requires.setup c.in-Ok.ensures.served c.requires.filling in
    has-run g.L.Layout g.D.Disk c.args.setup c.in-Ok.closed c.requires.setup c.requires.few c.in-Ok.ensures.served none (service_seen c.ended.result.0) c.ended.result.1.items c.ended.ensures

pub returns-in-Ok-clause-stands : goal.returns-in-Ok-clause-stands
returns-in-Ok-clause-stands g c =
    let none = none-closed g.L.Layout g.D.Disk c.args.setup c.in-Ok.closed c.requires.setup c.in-Ok.ensures.served c.requires.filling in
    stands g.L.Layout g.D.Disk c.args.setup c.in-Ok.closed c.requires.setup c.requires.few c.in-Ok.ensures.served none (service_seen c.ended.result.0) c.ended.result.1.items c.ended.ensures

pub returns-in-Ok-clause-effect : goal.returns-in-Ok-clause-effect
returns-in-Ok-clause-effect g c =
    let none = none-closed g.L.Layout g.D.Disk c.args.setup c.in-Ok.closed c.requires.setup c.in-Ok.ensures.served c.requires.filling in
    let ran : RanPlain g.D.Disk (work_of g.L.Layout c.args.setup None) c.args.setup.devices.items (service_seen c.ended.result.0) c.ended.result.1.items =
    has-run g.L.Layout g.D.Disk c.args.setup c.in-Ok.closed c.requires.setup c.requires.few c.in-Ok.ensures.served none (service_seen c.ended.result.0) c.ended.result.1.items c.ended.ensures in
    took-effect g.D.Disk (work_of g.L.Layout c.args.setup None) c.args.setup.devices.items (service_seen c.ended.result.0) c.ended.result.1.items ran.run
