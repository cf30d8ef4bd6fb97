use Rattle.std.proofs.Common.{sym}
use Rattle.eng_world.specs.declared.item.Traced.TheVariants as event
use Rattle.eng_state.specs.Moves.{id_of}
use Rattle.eng_array.specs.Tickets.{IsFiringOf}
use Rattle.eng_crew.proofs.Made.{fired-made}
use Rattle.eng_crew.proofs.making.fire_through.Goals as goal

pub returns : goal.returns
returns g c = λ v q steady.
    let m = c.args.core.now in
    let j = c.fire_at.result in
    let e = event.Fire (id_of m.array.clients c.args.client) c.args.node in
    let is : IsFiringOf e j.client j.node = (sym c.fire_at.ensures.job.0, sym c.fire_at.ensures.job.1) in
    c.bring_home.ensures v (fired-made g.L.Layout g.D.Disk v m c.fire_at.new.self j e is c.fire_at.ensures.happens c.fire_at.ensures.lends q steady)
