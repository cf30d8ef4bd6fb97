use Rattle.std.proofs.Common.{◌≡◌, ◌∙◌, sym, subst, inl, inr, Option, None}
use Rattle.eng_job.specs.declared.job.Job.{Job}
use Rattle.eng_array.specs.declared.calls.Core.{Core}
use Rattle.eng_array.specs.Steady.{IsSteady}
use Rattle.eng_turn.specs.Turn.{opening_of, ticket_of}
use Rattle.eng_crew.specs.Laws.{TurnsTo, after_later, after_step}
use Rattle.eng_crew.proofs.Keeps.{turns-keep}
use Rattle.eng_crew.proofs.entries.turn_without.Goals as goal

pub go_far-found-requires : goal.go_far-found-requires
go_far-found-requires g c = subst (λ (x : Core g.row.L.Denot g.row.D.Denot). IsSteady g.L.Layout g.D.Disk x.array) (sym c.deref_mut.ensures.value) c.enter-core.ensures.fits.2.shared.sound

pub leave-requires-clause-step : goal.leave-requires-clause-step
leave-requires-clause-step g c =
    let v : Core g.row.L.Denot g.row.D.Denot = c.enter-core.result.value in
    let w : Core g.row.L.Denot g.row.D.Denot = c.go_far-found.new.core in
    let t = ticket_of c.enter-core.new.pass in
    let u = c.go_far-found.result.1 in
    let none : t ≡ None = c.enter-core.ensures.ticket ∙ c.requires.ticket in
    let far = subst (λ (x : Core g.row.L.Denot g.row.D.Denot). TurnsTo g.L.Layout g.D.Disk x None w u) c.deref_mut.ensures.value c.go_far-found.ensures.turned in
    let turn = subst (λ (x : Option (Job g.row.D.Denot)). TurnsTo g.L.Layout g.D.Disk v x w u) (sym none) far in
    (c.enter-core.result, c.enter-core.ensures.inside, turn, turns-keep g.L.Layout g.D.Disk (opening_of c.args.turn.now).value v w t u turn)

pub returns-clause-idle : goal.returns-clause-idle
returns-clause-idle g c =
    let v : Core g.row.L.Denot g.row.D.Denot = c.enter-core.result.value in
    let w : Core g.row.L.Denot g.row.D.Denot = c.go_far-found.new.core in
    let u = c.go_far-found.result.1 in
    let far = subst (λ (x : Core g.row.L.Denot g.row.D.Denot). TurnsTo g.L.Layout g.D.Disk x None w u) c.deref_mut.ensures.value c.go_far-found.ensures.turned in
    elim c.go_far-found.ensures.idle [
      | inl e ↦ inl e
      | inr h ↦ inr (
        h.0,
        (_, c.leave.ensures.mark, h.1, after_later g.L.Layout g.D.Disk (opening_of c.args.turn.now).value v w c.enter-core.ensures.fits.2.after (after_step g.L.Layout g.D.Disk v w None u far)),
      )
    ]
