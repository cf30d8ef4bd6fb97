use Rattle.std.specs.Prelude.{◌≡◌, ◌⊎◌, ◌<◌, ◌+◌, ◌*◌, Some, Ok, Err, Option, length}
use Rattle.std.proofs.Common.{◌∙◌, arith, ℕ, ap, subst, sym, inl, inr}
use Rattle.top_bay.specs.Views.{asked_seen}
use Rattle.top_open.specs.Opening.{Opened, opened_in, opened_seen}
use Rattle.top_open.specs.Plan.{IsPlan}
use Rattle.top_open.specs.declared.fault.OpenFault.TheVariants as fault
use Rattle.top_open.specs.declared.plan.Needs.{Needs}
use Rattle.top_status.specs.Refusals.{only}
use Rattle.top_duty.specs.Opening.{AreTableRows, needs_of, fronted_by, status_of}
use Rattle.top_duty.specs.Steps.{without_small}
use Rattle.top_duty.proofs.Deadened.{small_length}
use Rattle.top_duty.proofs.Opens.{as_rows, before_count, dead_within, opened_args, fronted_is, fronted_not}
use Rattle.top_duty.proofs.Tables.{plan_is}
use Rattle.top_duty.proofs.opening.open_fronts.Goals as goal

pub open_array-requires-clause-plan : goal.open_array-requires-clause-plan
open_array-requires-clause-plan c = subst (λ p. IsPlan p) (sym c.plan_of-plan.ensures) (plan_is c.args.asked.now.conf c.requires.asked.conf)

pub as_opened-requires : goal.as_opened-requires
as_opened-requires c = λ x e.
    let k = asked_seen c.args.asked.now in
    let opens = opened_args c.needs_of-needs.result c.plan_of-plan.result c.deref.result.now k c.args.sizes.now c.args.fronts.now (Ok (opened_seen c.in-Ok.opened)) c.needs_of-needs.ensures c.plan_of-plan.ensures (c.deref.ensures.value ∙ c.in_ok-present.ensures) c.in-Ok.ensures in
    let is : (needs_of k).excused ≡ Some x = sym (ap (λ (q : Needs). q.excused) c.needs_of-needs.ensures) ∙ e in
    let lt : x < c.args.asked.now.conf.columns = dead_within k c.requires.asked x is in
    omega (arith, lt, before_count k c.args.sizes.now c.args.fronts.now (opened_seen c.in-Ok.opened) c.requires.asked.conf opens)

pub returns-in-Ok-clause-opened : goal.returns-in-Ok-clause-opened
returns-in-Ok-clause-opened c =
    let k = asked_seen c.args.asked.now in
    let b : Opened = opened_seen c.in-Ok.opened in
    let opens = opened_args c.needs_of-needs.result c.plan_of-plan.result c.deref.result.now k c.args.sizes.now c.args.fronts.now (Ok (opened_seen c.in-Ok.opened)) c.needs_of-needs.ensures c.plan_of-plan.ensures (c.deref.ensures.value ∙ c.in_ok-present.ensures) c.in-Ok.ensures in
    let excused : c.needs_of-needs.result.excused ≡ (needs_of k).excused = ap (λ (q : Needs). q.excused) c.needs_of-needs.ensures in
    fronted_is k c.args.sizes.now c.args.fronts.now b opens
    ∙ sym (ap (λ (o : Opened). Ok o) (c.as_opened.ensures
    ∙ ap (λ (e : Option ℕ). record b { columns = without_small e c.args.sizes.now (64 + b.rows * c.args.asked.now.conf.unit) b.columns }) excused))

pub returns-in-Ok-clause-rows : goal.returns-in-Ok-clause-rows
returns-in-Ok-clause-rows c =
    let k = asked_seen c.args.asked.now in
    let opens = opened_args c.needs_of-needs.result c.plan_of-plan.result c.deref.result.now k c.args.sizes.now c.args.fronts.now (Ok (opened_seen c.in-Ok.opened)) c.needs_of-needs.ensures c.plan_of-plan.ensures (c.deref.ensures.value ∙ c.in_ok-present.ensures) c.in-Ok.ensures in
    subst (λ (o : Opened). AreTableRows c.args.asked.now.conf o.rows) (sym c.as_opened.ensures) (as_rows k c.args.sizes.now c.args.fronts.now (opened_seen c.in-Ok.opened) c.requires.asked.conf opens)

pub returns-in-Ok-clause-columns : goal.returns-in-Ok-clause-columns
returns-in-Ok-clause-columns c =
    let k = asked_seen c.args.asked.now in
    let b : Opened = opened_seen c.in-Ok.opened in
    let opens = opened_args c.needs_of-needs.result c.plan_of-plan.result c.deref.result.now k c.args.sizes.now c.args.fronts.now (Ok (opened_seen c.in-Ok.opened)) c.needs_of-needs.ensures c.plan_of-plan.ensures (c.deref.ensures.value ∙ c.in_ok-present.ensures) c.in-Ok.ensures in
    ap (λ (o : Opened). length o.columns) c.as_opened.ensures
    ∙ (small_length c.needs_of-needs.result.excused c.args.sizes.now (64 + b.rows * c.args.asked.now.conf.unit) b.columns ∙ before_count k c.args.sizes.now c.args.fronts.now b c.requires.asked.conf opens)

pub returns-clause-opened : goal.returns-clause-opened
returns-clause-opened c = go c.in-Err.ensures
  where
    go : (c.in-Err.fault ≡ fault.Memory) ⊎ (opened_in c.needs_of-needs.result c.plan_of-plan.result c.deref.result.now c.args.sizes.now c.args.fronts.now ≡ Err c.in-Err.fault)
        → (c.in-Err.fault ≡ fault.Memory) ⊎ (fronted_by (asked_seen c.args.asked.now) c.args.sizes.now c.args.fronts.now ≡ Err (only (status_of c.in-Err.fault)))
    go (inl memory) = inl memory
    go (inr h) = inr (fronted_not (asked_seen c.args.asked.now) c.args.sizes.now c.args.fronts.now c.in-Err.fault
        (opened_args c.needs_of-needs.result c.plan_of-plan.result c.deref.result.now (asked_seen c.args.asked.now) c.args.sizes.now c.args.fronts.now (Err c.in-Err.fault) c.needs_of-needs.ensures c.plan_of-plan.ensures (c.deref.ensures.value ∙ c.in_ok-present.ensures) h))
