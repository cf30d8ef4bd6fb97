use Rattle.std.proofs.Common.{List, [], ℕ, vec_capacity, subst, sym, arith}
use Rattle.graph_mean.specs.declared.step.Status.{Status}
use Rattle.graph_mean.specs.declared.step.Phase.TheVariants.{Undone}
use Rattle.graph_mean.specs.Graph.{blank}
use Rattle.eng_one.specs.Counts.{IsKept}
use Rattle.eng_one.proofs.Kept.{opened-kept}
use Rattle.eng_one.proofs.run.Run.open.Goals as goal

pub invariant_of-result : goal.invariant_of-result
invariant_of-result c =
    let links = c.in_ok-open.field-0 in
    let set = c.new.result in
    let a = vec_capacity c.in_ok-with_capacity.field-0 in
    let b = vec_capacity c.in_ok-with_capacity-2.field-0 in
    subst (λ (marks : List Status). IsKept blank marks Undone 0 links c.in_ok-with_capacity-2.field-0.items set a b) (sym c.in_ok-with_capacity.ensures.items)
    (subst (λ (counts : List ℕ). IsKept blank [] Undone 0 links counts set a b) (sym c.in_ok-with_capacity-2.ensures.items)
    (opened-kept links set a b c.in_ok-open.ensures c.new.ensures (omega (arith, c.in_ok-with_capacity.ensures.exact)) (omega (arith, c.in_ok-with_capacity-2.ensures.exact))))
