use Rattle.std.proofs.Common.{[], ◌∷◌, Option, None, sym, ap, ◌∙◌, subst}
use Rattle.std.specs.Box.{box_value}
use Rattle.eng_job.specs.declared.job.Job.{Job}
use Rattle.eng_array.specs.declared.calls.Core.{Core}
use Rattle.eng_array.specs.Steady.{IsSteady}
use Rattle.eng_array.specs.Tickets.{After, Shared}
use Rattle.eng_events.specs.Opened.{NoneOut}
use Rattle.eng_crew.specs.Idle.{WasIdle}
use Rattle.eng_crew.specs.Laws.{FitsIn, later_itself}
use Rattle.eng_crew.proofs.Keeps.{none-shared, shared-none}
use Rattle.eng_crew.proofs.crew.run_crew.Goals as goal

pub open-requires : goal.open-requires
open-requires g c = subst (λ (o : Core g.row.L.Denot g.row.D.Denot). FitsIn g.L.Layout g.D.Disk o o (None ∷ [])) (sym c.in-Ok-new.ensures.ok)
    (record { after = later_itself g.L.Layout g.D.Disk c.args.core.array; shared = none-shared g.L.Layout g.D.Disk c.args.core.array c.requires.steady c.requires.home })

pub returns-clause-after : goal.returns-clause-after
returns-clause-after g c =
    subst (λ (x : Core g.row.L.Denot g.row.D.Denot). After g.L.Layout g.D.Disk c.args.core.array x.array) (sym c.into_inner-2.ensures)
    (subst (λ (o : Core g.row.L.Denot g.row.D.Denot). After g.L.Layout g.D.Disk o.array c.in-Some.boxed.value.array) (ap box_value c.in-Ok-open.ensures.opening ∙ c.in-Ok-new.ensures.ok) c.in-Some.ensures.fits.after)

pub returns-clause-steady : goal.returns-clause-steady
returns-clause-steady g c = subst (λ (x : Core g.row.L.Denot g.row.D.Denot). IsSteady g.L.Layout g.D.Disk x.array) (sym c.into_inner-2.ensures) c.in-Some.ensures.fits.shared.sound

pub returns-clause-home : goal.returns-clause-home
returns-clause-home g c = subst (λ (x : Core g.row.L.Denot g.row.D.Denot). NoneOut x.array.clients) (sym c.into_inner-2.ensures)
    (shared-none g.L.Layout g.D.Disk c.in-Some.boxed.value.array (subst (λ (t : Option (Job g.row.D.Denot)). Shared g.L.Layout g.D.Disk c.in-Some.boxed.value.array (t ∷ [])) c.crew-pass.ensures.ready.2 c.in-Some.ensures.fits.shared))

pub returns-clause-idle : goal.returns-clause-idle
returns-clause-idle g c =
    let idle = c.crew-pass.ensures.idle in
    subst (λ (x : Core g.row.L.Denot g.row.D.Denot). WasIdle g.L.Layout g.D.Disk c.args.core.array x.array) (sym c.into_inner-2.ensures)
    (record {
      mid = idle.0.value.array;
      idle = idle.2;
      before = subst (λ (o : Core g.row.L.Denot g.row.D.Denot). After g.L.Layout g.D.Disk o.array idle.0.value.array) (ap box_value c.in-Ok-open.ensures.opening ∙ c.in-Ok-new.ensures.ok) idle.3;
      behind = c.in-Some.ensures.after idle.0 idle.1;
    })
