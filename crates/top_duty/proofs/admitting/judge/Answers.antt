use Rattle.std.specs.Prelude.{◌≡◌, ℕ, List}
use Rattle.std.proofs.Common.{◌∙◌, inl, subst}
use Rattle.top_bay.specs.Views.{asked_seen}
use Rattle.top_open.specs.declared.fronts.Front.{Front}
use Rattle.top_duty.specs.Duty.{duty_by}
use Rattle.top_duty.specs.Opening.{sizes_of}
use Rattle.top_duty.specs.Views.{IsDutyOver, RefusedHere}
use Rattle.top_duty.proofs.Fitting.{fit_for}
use Rattle.top_duty.proofs.Sized.{refused_over}
use Rattle.top_duty.proofs.admitting.judge.Goals as goal

pub returns-in-Ok-prepare-clause-fit : goal.returns-in-Ok-prepare-clause-fit
returns-in-Ok-prepare-clause-fit g c =
    let k = asked_seen c.args.asked.now in
    let d = c.in-Ok-prepare.duty in
    let sizes : c.deref.result.now ≡ sizes_of g.D.Disk.size c.look.new.devices = c.deref.ensures.value ∙ c.in-Ok.ensures.sizes in
    fit_for g.D.Disk k c.look.new.devices c.in-Ok.seen.fronts.items d c.requires.asked
    (subst (λ (l : List ℕ). IsDutyOver k l c.in-Ok.seen.fronts.items d) sizes
    (subst (λ (f : List Front). IsDutyOver k c.deref.result.now f d) c.deref-2.ensures.value c.in-Ok-prepare.ensures.duty))

pub returns-in-Err-clause-refused : goal.returns-in-Err-clause-refused
returns-in-Err-clause-refused g c = inl (c.only.ensures, inl c.in-Err.ensures.same)

pub returns-in-Err-prepare-clause-refused : goal.returns-in-Err-prepare-clause-refused
returns-in-Err-prepare-clause-refused g c =
    let k = asked_seen c.args.asked.now in
    let r = c.in-Err-prepare.refusal in
    let sizes : c.deref.result.now ≡ sizes_of g.D.Disk.size c.look.new.devices = c.deref.ensures.value ∙ c.in-Ok.ensures.sizes in
    refused_over g.D.Disk k c.args.devices.now c.look.new.devices c.in-Ok.seen.fronts.items r c.in-Ok.ensures.read
    (subst (λ (l : List ℕ). RefusedHere (duty_by k l c.in-Ok.seen.fronts.items) r) sizes
    (subst (λ (f : List Front). RefusedHere (duty_by k c.deref.result.now f) r) c.deref-2.ensures.value c.in-Err-prepare.ensures.refused))
