use Rattle.std.proofs.Common.{◌∙◌, ap, subst, sym}
use Rattle.top_bay.specs.Views.{asked_seen}
use Rattle.top_status.specs.declared.status.Status.{Status}
use Rattle.top_status.specs.Refusals.{Refused, only}
use Rattle.top_words.specs.declared.profile.Kind.TheVariants as kind
use Rattle.top_duty.specs.Duty.{duty_for}
use Rattle.top_duty.specs.Views.{RefusedHere}
use Rattle.top_duty.proofs.Wanting.{refused_showing}
use Rattle.top_duty.proofs.preparing.make_shown.Goals as goal

pub returns-in-Err-clause-refused : goal.returns-in-Err-clause-refused
returns-in-Err-clause-refused c =
    let status = ap (λ (s : Status). only s) c.status_of.ensures in
    subst (λ (r : Refused). RefusedHere (duty_for kind.Shown (asked_seen c.args.asked.now) c.args.sizes.now c.args.fronts.now) r) (sym (c.only.ensures ∙ status))
    (refused_showing (asked_seen c.args.asked.now) c.args.sizes.now c.args.fronts.now c.in-Err.fault c.in-Err.ensures)
