use Rattle.std.proofs.Common.{◌≡◌, ℕ, List, take, replicate, length, refl, inl, inr, ap, sym, ◌∙◌, subst, arith, get_or}
use Rattle.std.specs.Prelude.{Option, Some, None, All}
use Rattle.std.proofs.lemmas.Bool.{cases_lt}
use Rattle.std.proofs.lemmas.List.{get_or_past}
use Rattle.std.proofs.lemmas.List.Elements.{All-get_or, All-take, All-replicate}
use Rattle.graph_mean.specs.declared.task.Kind.TheVariants.{Write}
use Rattle.graph_lib.specs.Laws.{IsPlannable}
use Rattle.graph_tests.proofs.plans.pieces_of_write.Goals as goal

-- of a list of no missing units none is missing
none-is : (xs : List (Option ℕ)) (s m : ℕ) → All (λ x. x ≡ None) xs → get_or xs s None ≡ Some m → ⊥
none-is xs s m w e = elim (cases_lt s (length xs)) [
  | inl l ↦ let z = sym (All-get_or (λ x. x ≡ None) xs s None l w) ∙ e in cc
  | inr l ↦ let z = sym (get_or_past xs s None l) ∙ e in cc
]

pub set-requires-clause-map : goal.set-requires-clause-map
set-requires-clause-map g c = c.split_is_a_map.ensures (g.L.Layout.shape c.args.layout.now) (record { first = c.args.first; count = c.args.count }) c.split.new.map (g.met.L.Layout.is_layout c.args.layout.now) c.requires c.in_ok-split.ensures.few c.in_ok-split.ensures.split

pub plan_and_check-requires-clause-gone : goal.plan_and_check-requires-clause-gone
plan_and_check-requires-clause-gone g c s m e =
    let n : ℕ = length c.stripes-stripes.result.now in
    absurd (none-is (take n (replicate 16 None)) s m (All-take (λ x. x ≡ None) n (replicate 16 None) (All-replicate (λ x. x ≡ None) 16 None refl)) e)

pub plan_and_check-requires-clause-task : goal.plan_and_check-requires-clause-task
plan_and_check-requires-clause-task g c =
    subst IsPlannable (sym c.set.ensures) (c.span_is_plannable.ensures.plannable (g.L.Layout.shape c.args.layout.now) Write (record { first = c.args.first; count = c.args.count }) c.split.new.map (g.met.L.Layout.is_layout c.args.layout.now) c.in_ok-split.ensures.split (omega (arith, c.in_ok-split.ensures.few, c.in_ok-split.ensures.split.stripes_many)))
