use Rattle.std.proofs.Common.{◌≡◌, ◌+◌, ◌*◌, ◌∙◌, arith, ap, rules, replicate}
use Rattle.std.proofs.lemmas.List.{get_or-replicate}
use Rattle.lay_design.specs.Blocks.{entry}
use Rattle.lay_design.proofs.counts.count_pairs.Goals as goal

pub count_tuples-requires-clause-zeros : goal.count_tuples-requires-clause-zeros
count_tuples-requires-clause-zeros c =
    let zeros : c.in-Ok.counts.items ≡ replicate 1024 0 = search rules in
    λ x y hx hy. ap (λ l. entry l x y) (c.as_mut_slice.ensures.value ∙ zeros) ∙ get_or-replicate 1024 (x * 32 + y) 0 0 (omega (arith, hx, hy))
