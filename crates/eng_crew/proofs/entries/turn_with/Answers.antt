use Rattle.std.proofs.Common.{◌∙◌, sym, subst, inl, inr, None}
use Rattle.eng_array.specs.declared.calls.Core.{Core}
use Rattle.eng_fails.specs.Returned.{ended_by}
use Rattle.eng_array.specs.Steady.{IsSteady}
use Rattle.eng_state.specs.Out.{IsOut}
use Rattle.eng_turn.specs.Turn.{opening_of, ticket_of}
use Rattle.eng_crew.specs.Laws.{TurnsTo, after_later, after_step}
use Rattle.eng_crew.proofs.Keeps.{come-home, ticket-out, turns-keep, turns-on, turns-once}
use Rattle.eng_crew.proofs.entries.turn_with.Goals as goal

pub finish-requires-clause-steady : goal.finish-requires-clause-steady
finish-requires-clause-steady g c = subst (λ (x : Core g.row.L.Denot g.row.D.Denot). IsSteady g.L.Layout g.D.Disk x.array) (sym c.deref_mut.ensures.value) c.enter-core.ensures.fits.2.shared.sound

pub finish-requires-clause-back : goal.finish-requires-clause-back
finish-requires-clause-back g c =
    let f = c.enter-core.ensures.fits in
    let out = ticket-out g.L.Layout g.D.Disk c.enter-core.result.value.array (ticket_of c.args.pass.now) c.args.job f.0 f.1 c.requires.ticket f.2.shared in
    (c.args.job, subst (λ (x : Core g.row.L.Denot g.row.D.Denot). IsOut g.D.Disk g.L.Layout x.array c.args.job) (sym c.deref_mut.ensures.value) out, c.perform-outcome.ensures)

pub go_far-found-requires : goal.go_far-found-requires
go_far-found-requires g c = subst (λ (x : Core g.row.L.Denot g.row.D.Denot). IsSteady g.L.Layout g.D.Disk x.array) (sym c.deref_mut-2.ensures.value) c.finish.ensures.steady

pub leave-requires-clause-step : goal.leave-requires-clause-step
leave-requires-clause-step g c =
    let b : Core g.row.L.Denot g.row.D.Denot = c.deref_mut.result.now in
    let v : Core g.row.L.Denot g.row.D.Denot = c.enter-core.result.value in
    let m : Core g.row.L.Denot g.row.D.Denot = c.finish.new.self in
    let t = ticket_of c.enter-core.new.pass in
    let home = come-home g.L.Layout g.D.Disk b.array m.array t c.args.job c.perform-outcome.new.self c.perform-outcome.result (c.enter-core.ensures.ticket ∙ c.requires.ticket) c.perform-outcome.ensures (ended_by b.array c.perform-outcome.new.self c.perform-outcome.result) c.finish.ensures.happens c.finish.ensures.end c.finish.ensures.gets in
    let turn = subst (λ (x : Core g.row.L.Denot g.row.D.Denot). TurnsTo g.L.Layout g.D.Disk x t m None) c.deref_mut.ensures.value (turns-once g.L.Layout g.D.Disk b m t None home) in
    (c.enter-core.result, c.enter-core.ensures.inside, turn, turns-keep g.L.Layout g.D.Disk (opening_of c.args.turn.now).value v m t None turn)

pub leave-requires-2-clause-step : goal.leave-requires-2-clause-step
leave-requires-2-clause-step g c =
    let b : Core g.row.L.Denot g.row.D.Denot = c.deref_mut.result.now in
    let v : Core g.row.L.Denot g.row.D.Denot = c.enter-core.result.value in
    let m : Core g.row.L.Denot g.row.D.Denot = c.finish.new.self in
    let w : Core g.row.L.Denot g.row.D.Denot = c.go_far-found.new.core in
    let t = ticket_of c.enter-core.new.pass in
    let u = c.go_far-found.result.1 in
    let home = come-home g.L.Layout g.D.Disk b.array m.array t c.args.job c.perform-outcome.new.self c.perform-outcome.result (c.enter-core.ensures.ticket ∙ c.requires.ticket) c.perform-outcome.ensures (ended_by b.array c.perform-outcome.new.self c.perform-outcome.result) c.finish.ensures.happens c.finish.ensures.end c.finish.ensures.gets in
    let one = subst (λ (x : Core g.row.L.Denot g.row.D.Denot). TurnsTo g.L.Layout g.D.Disk x t m None) c.deref_mut.ensures.value (turns-once g.L.Layout g.D.Disk b m t None home) in
    let far = subst (λ (x : Core g.row.L.Denot g.row.D.Denot). TurnsTo g.L.Layout g.D.Disk x None w u) c.deref_mut-2.ensures.value c.go_far-found.ensures.turned in
    let turn = turns-on g.L.Layout g.D.Disk v m w t None u one far in
    (c.enter-core.result, c.enter-core.ensures.inside, turn, turns-keep g.L.Layout g.D.Disk (opening_of c.args.turn.now).value v w t u turn)

pub returns-clause-idle : goal.returns-clause-idle
returns-clause-idle g c =
    let b : Core g.row.L.Denot g.row.D.Denot = c.deref_mut.result.now in
    let v : Core g.row.L.Denot g.row.D.Denot = c.enter-core.result.value in
    let m : Core g.row.L.Denot g.row.D.Denot = c.finish.new.self in
    let w : Core g.row.L.Denot g.row.D.Denot = c.go_far-found.new.core in
    let t = ticket_of c.enter-core.new.pass in
    let u = c.go_far-found.result.1 in
    let home = come-home g.L.Layout g.D.Disk b.array m.array t c.args.job c.perform-outcome.new.self c.perform-outcome.result (c.enter-core.ensures.ticket ∙ c.requires.ticket) c.perform-outcome.ensures (ended_by b.array c.perform-outcome.new.self c.perform-outcome.result) c.finish.ensures.happens c.finish.ensures.end c.finish.ensures.gets in
    let one = subst (λ (x : Core g.row.L.Denot g.row.D.Denot). TurnsTo g.L.Layout g.D.Disk x t m None) c.deref_mut.ensures.value (turns-once g.L.Layout g.D.Disk b m t None home) in
    let far = subst (λ (x : Core g.row.L.Denot g.row.D.Denot). TurnsTo g.L.Layout g.D.Disk x None w u) c.deref_mut-2.ensures.value c.go_far-found.ensures.turned in
    let turn = turns-on g.L.Layout g.D.Disk v m w t None u one far in
    elim c.go_far-found.ensures.idle [
      | inl e ↦ inl e
      | inr h ↦ inr (
        h.0,
        (_, c.leave-2.ensures.mark, h.1, after_later g.L.Layout g.D.Disk (opening_of c.args.turn.now).value v w c.enter-core.ensures.fits.2.after (after_step g.L.Layout g.D.Disk v w t u turn)),
      )
    ]
