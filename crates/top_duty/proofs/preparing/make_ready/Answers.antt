use Rattle.std.specs.Prelude.{◌≡◌, ◌⊎◌, ◌<◌, ℕ, [], Some, Option, Err}
use Rattle.std.proofs.Common.{◌∙◌, ap, arith, inl, subst, sym}
use Rattle.top_bay.specs.Views.{asked_seen}
use Rattle.top_open.specs.declared.plan.Needs.{Needs}
use Rattle.top_open.specs.Opening.{opened_seen}
use Rattle.top_status.specs.declared.status.Status.{Status}
use Rattle.top_status.specs.Refusals.{Refused, only}
use Rattle.top_words.specs.declared.profile.Kind.TheVariants as kind
use Rattle.top_duty.specs.Duty.{IsWanted, WantsMemory, duty_for}
use Rattle.top_duty.specs.Steps.{admitted_with}
use Rattle.top_duty.specs.Opening.{needs_of}
use Rattle.top_duty.specs.Views.{RefusedHere, dead_beside}
use Rattle.top_duty.proofs.Named.{start_named, start_within}
use Rattle.top_duty.proofs.Opens.{dead_within, opened_count, opened_filling, opened_rows, opened_spread}
use Rattle.top_duty.proofs.Wanting.{array_is, refused_after, refused_opening}
use Rattle.top_duty.proofs.preparing.make_ready.Goals as goal

pub returns-in-Err-clause-refused : goal.returns-in-Err-clause-refused
returns-in-Err-clause-refused c =
    let status = ap (λ (s : Status). only s) c.status_of.ensures in
    subst (λ (r : Refused). RefusedHere (duty_for kind.Array (asked_seen c.args.asked.now) c.args.sizes.now c.args.fronts.now) r) (sym (c.only.ensures ∙ status))
    (refused_opening (asked_seen c.args.asked.now) c.args.sizes.now c.args.fronts.now c.in-Err.fault c.in-Err.ensures)

pub make-requires-clause-rows : goal.make-requires-clause-rows
make-requires-clause-rows c = opened_rows (asked_seen c.args.asked.now) c.args.sizes.now c.args.fronts.now (opened_seen c.in-Ok.opened) c.requires.asked.conf c.in-Ok.ensures

pub make-requires-clause-columns : goal.make-requires-clause-columns
make-requires-clause-columns c = opened_count (asked_seen c.args.asked.now) c.args.sizes.now c.args.fronts.now (opened_seen c.in-Ok.opened) c.requires.asked.conf c.in-Ok.ensures

pub make-requires-clause-filling : goal.make-requires-clause-filling
make-requires-clause-filling c = opened_filling (asked_seen c.args.asked.now) c.args.sizes.now c.args.fronts.now (opened_seen c.in-Ok.opened) c.requires.asked.conf c.in-Ok.ensures

pub make-requires-clause-spread : goal.make-requires-clause-spread
make-requires-clause-spread c = opened_spread (asked_seen c.args.asked.now) c.args.sizes.now c.args.fronts.now (opened_seen c.in-Ok.opened) c.requires.asked.conf c.in-Ok.ensures

pub make-requires-clause-dead : goal.make-requires-clause-dead
make-requires-clause-dead c = dead_within (asked_seen c.args.asked.now) c.requires.asked

pub refuse-requires : goal.refuse-requires
refuse-requires c = λ i e.
    let is : (needs_of (asked_seen c.args.asked.now)).excused ≡ Some i = sym (ap (λ (q : Needs). q.excused) c.needs_of.ensures) ∙ e in
    let lt : i < c.args.asked.now.conf.columns = dead_within (asked_seen c.args.asked.now) c.requires.asked i is in
    omega (arith, lt, opened_count (asked_seen c.args.asked.now) c.args.sizes.now c.args.fronts.now (opened_seen c.in-Ok.opened) c.requires.asked.conf c.in-Ok.ensures)

pub start_in-start-requires-clause-columns : goal.start_in-start-requires-clause-columns
start_in-start-requires-clause-columns c =
    let entries = opened_count (asked_seen c.args.asked.now) c.args.sizes.now c.args.fronts.now (opened_seen c.in-Ok.opened) c.requires.asked.conf c.in-Ok.ensures in
    omega (arith, entries, c.requires.asked.conf.columns_most)

pub make-requires-clause-start : goal.make-requires-clause-start
make-requires-clause-start c = λ s e.
    let entries = opened_count (asked_seen c.args.asked.now) c.args.sizes.now c.args.fronts.now (opened_seen c.in-Ok.opened) c.requires.asked.conf c.in-Ok.ensures in
    start_within c.args.fronts.now c.args.sizes.now (asked_seen c.args.asked.now) (opened_seen c.in-Ok.opened) c.requires.asked entries s (sym c.start_in-start.ensures ∙ e)

pub make-requires-clause-named : goal.make-requires-clause-named
make-requires-clause-named c = λ s e. start_named c.args.fronts.now c.args.sizes.now (asked_seen c.args.asked.now) (opened_seen c.in-Ok.opened) c.requires.asked s (sym c.start_in-start.ensures ∙ e)

pub returns-in-Err-make-clause-refused : goal.returns-in-Err-make-clause-refused
returns-in-Err-make-clause-refused c =
    let k = asked_seen c.args.asked.now in
    let o = opened_seen c.in-Ok.opened in
    let w = duty_for kind.Array k c.args.sizes.now c.args.fronts.now in
    let dead : c.needs_of.result.excused ≡ (needs_of k).excused = ap (λ (q : Needs). q.excused) c.needs_of.ensures in
    let made : c.refuse.result ≡ record { status = c.in-Err-make.status; dead = dead_beside (needs_of k).excused o.columns c.in-Err-make.status } =
    c.refuse.ensures ∙ ap (λ (e : Option ℕ). record { status = c.in-Err-make.status; dead = dead_beside e o.columns c.in-Err-make.status }) dead in
    inl (subst (λ (r : Refused). IsWanted w (Err r) ⊎ WantsMemory w r) (sym made)
    (refused_after w (admitted_with k o c.start_in-start.result []) c.in-Err-make.status (array_is k c.args.sizes.now c.args.fronts.now o c.start_in-start.result c.in-Ok.ensures c.start_in-start.ensures) c.in-Err-make.ensures.refused))

pub returns-in-Ok-make-clause-prepared : goal.returns-in-Ok-make-clause-prepared
returns-in-Ok-make-clause-prepared c =
    let k = asked_seen c.args.asked.now in
    let o = opened_seen c.in-Ok.opened in
    record {
      ready = record { opened = c.in-Ok.ensures; starts = c.start_in-start.ensures; may = c.in-Ok-make.ensures.may };
      failed = c.has_failed.ensures;
      rows = opened_rows k c.args.sizes.now c.args.fronts.now o c.requires.asked.conf c.in-Ok.ensures;
      made = c.in-Ok-make.ensures.made;
    }
