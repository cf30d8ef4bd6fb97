use Rattle.std.proofs.Common.{◌∙◌, sym, refl}
use Rattle.eng_array.specs.Tickets.{nothing}
use Rattle.eng_turn.specs.Turn.{opening_of, ticket_of}
use Rattle.eng_crew.proofs.Keeps.{turns-keep, turns-once}
use Rattle.eng_crew.proofs.entries.look.Goals as goal

pub leave-requires-clause-step : goal.leave-requires-clause-step
leave-requires-clause-step g c =
    let v = c.enter-core.result.value in
    let t = ticket_of c.enter-core.new.pass in
    let turn = turns-once g.L.Layout g.D.Disk v v t c.args.job.now (nothing refl (sym (c.enter-core.ensures.ticket ∙ c.requires.ticket))) in
    (c.enter-core.result, c.enter-core.ensures.inside, turn, turns-keep g.L.Layout g.D.Disk (opening_of c.args.turn.now).value v v t c.args.job.now turn)
