use Rattle.std.proofs.Common.{sym}
use Rattle.eng_world.specs.declared.item.Traced.TheVariants as event
use Rattle.eng_state.specs.Moves.{id_of}
use Rattle.eng_fails.specs.Returned.{ended_by}
use Rattle.eng_array.specs.Tickets.{IsFiringOf}
use Rattle.eng_crew.proofs.Made.{ended-made, fired-made}
use Rattle.eng_crew.proofs.making.fire_out.Goals as goal

pub finish-requires-clause-back : goal.finish-requires-clause-back
finish-requires-clause-back g c = (c.fire_at-job.result, c.fire_at-job.ensures.out, c.perform-outcome.ensures)

pub returns-then-goes_out : goal.returns-then-goes_out
returns-then-goes_out g c = λ v q steady.
    let m = c.args.core.now in
    let j = c.fire_at-job.result in
    let e = event.Fire (id_of m.array.clients c.args.client) c.args.node in
    let is : IsFiringOf e j.client j.node = (sym c.fire_at-job.ensures.job.0, sym c.fire_at-job.ensures.job.1) in
    fired-made g.L.Layout g.D.Disk v m c.fire_at-job.new.self j e is c.fire_at-job.ensures.happens c.fire_at-job.ensures.lends q steady

pub returns : goal.returns
returns g c = λ v q steady.
    let m = c.args.core.now in
    let x = c.fire_at-job.new.self in
    let j = c.fire_at-job.result in
    let done = c.perform-outcome.new.self in
    let outcome = c.perform-outcome.result in
    let e = event.Fire (id_of m.array.clients c.args.client) c.args.node in
    let is : IsFiringOf e j.client j.node = (sym c.fire_at-job.ensures.job.0, sym c.fire_at-job.ensures.job.1) in
    let made = fired-made g.L.Layout g.D.Disk v m x j e is c.fire_at-job.ensures.happens c.fire_at-job.ensures.lends q steady in
    ended-made g.L.Layout g.D.Disk v x c.finish.new.self j done outcome (ended_by x.array done outcome) made c.perform-outcome.ensures c.finish.ensures.happens c.finish.ensures.end c.finish.ensures.gets
