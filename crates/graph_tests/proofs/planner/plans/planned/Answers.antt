use Rattle.std.proofs.Common.{◌≡◌, ℕ, inl, inr, List, take, replicate, length, refl, ap, sym, ◌∙◌, subst, arith, get_or}
use Rattle.std.specs.Prelude.{Option, Some, None, All}
use Rattle.std.proofs.lemmas.Bool.{cases_lt}
use Rattle.std.proofs.lemmas.List.{get_or_past}
use Rattle.std.proofs.lemmas.List.Elements.{All-get_or, All-take, All-replicate}
use Rattle.graph_mean.specs.Task.{Aim}
use Rattle.graph_lib.specs.Laws.{IsPlannable}
use Rattle.graph_tests.proofs.planner.plans.planned.Goals as goal

-- a unit is missing in each stripe or in none
from-same : (o : Option ℕ) (xs : List (Option ℕ)) (s m : ℕ) → All (λ x. x ≡ o) xs → get_or xs s None ≡ Some m → o ≡ Some m
from-same o xs s m w e = elim (cases_lt s (length xs)) [
  | inl l ↦ sym (All-get_or (λ x. x ≡ o) xs s None l w) ∙ e
  | inr l ↦ let z = sym (get_or_past xs s None l) ∙ e in cc
]

pub plan-requires-clause-gone : goal.plan-requires-clause-gone
plan-requires-clause-gone g c s m e =
    let o : Option ℕ = c.args.asked.gone in
    let n : ℕ = length c.stripes-stripes.result.now in
    let p = c.requires.gone m (from-same o (take n (replicate 16 o)) s m (All-take (λ x. x ≡ o) n (replicate 16 o) (All-replicate (λ x. x ≡ o) 16 o refl)) e) in
    let l = p.0 in
    let w = ap (λ (t : Aim). t.width) c.set.ensures in
    (omega arith, ap (λ (t : Aim). t.checks) c.set.ensures ∙ p.1)

pub plan-requires-clause-task : goal.plan-requires-clause-task
plan-requires-clause-task g c =
    subst IsPlannable (sym c.set.ensures) (c.span_is_plannable.ensures.plannable (g.L.Layout.shape c.args.layout.now) c.args.asked.kind c.args.asked.span c.split.new.map (g.met.L.Layout.is_layout c.args.layout.now) c.in_ok-split.ensures.split (omega (arith, c.in_ok-split.ensures.few, c.in_ok-split.ensures.split.stripes_many)))
