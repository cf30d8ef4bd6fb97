use Rattle.std.proofs.Common.{◌∙◌, ap, sym, subst, inr, None, Some}
use Rattle.std.specs.Prelude.{Result, Err}
use Rattle.top_open.specs.declared.fault.OpenFault.{OpenFault}
use Rattle.top_open.specs.Opening.{Opened, OpensAs}
use Rattle.top_open.proofs.OpeningLaws.{opens-unlabelled, opens-labelled}
use Rattle.top_open.proofs.opening.judged.Goals as goal

pub returns-then-is_unlabelled : goal.returns-then-is_unlabelled
returns-then-is_unlabelled c =
    subst (λ (a : Result Opened OpenFault). OpensAs c.open_unlabelled.result a)
    (opens-unlabelled c.args.needs.now c.args.plan.now c.args.present.now c.args.sizes.now c.args.fronts.now (sym c.is_unlabelled.ensures ∙ c.if-is_unlabelled.true)) c.open_unlabelled.ensures

pub returns-in-Some : goal.returns-in-Some
returns-in-Some c =
    subst (λ (a : Result Opened OpenFault). OpensAs c.open_labelled.result a)
    (opens-labelled c.args.needs.now c.args.plan.now c.args.present.now c.args.sizes.now c.args.fronts.now (Some c.in-Some.newest) (sym c.is_unlabelled.ensures ∙ c.if-is_unlabelled.false) (sym c.in-Some.is ∙ c.newest.ensures)) c.open_labelled.ensures

pub returns-in-None : goal.returns-in-None
returns-in-None c =
    inr (sym (opens-labelled c.args.needs.now c.args.plan.now c.args.present.now c.args.sizes.now c.args.fronts.now None (sym c.is_unlabelled.ensures ∙ c.if-is_unlabelled.false) (sym c.in-None.is ∙ c.newest.ensures)) ∙ ap Err (sym c.unlabelled.ensures))
