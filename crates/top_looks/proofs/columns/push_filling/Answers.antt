use Rattle.std.proofs.Common.{◌∙◌, ◌++◌, ℕ, List, [], ◌∷◌, ap, arith, length}
use Rattle.std.specs.Prelude.{decimal}
use Rattle.std.proofs.lemmas.List.{append_assoc, length-append}
use Rattle.top_looks.specs.Steps.{filling_state}
use Rattle.top_looks.proofs.columns.push_filling.Goals as goal

pub returns-clause-text : goal.returns-clause-text
unfolding filling_state
returns-clause-text c =
    c.push_number.ensures.value ∙ (ap (λ l. l ++ decimal c.args.done) c.push.ensures ∙ append_assoc c.args.line.now _ (decimal c.args.done))

pub returns-clause-short : goal.returns-clause-short
returns-clause-short c =
    let word : List ℕ = 114 ∷ 101 ∷ 98 ∷ 117 ∷ 105 ∷ 108 ∷ 100 ∷ 105 ∷ 110 ∷ 103 ∷ 32 ∷ [] in
    omega (arith, c.push_number.ensures.short, ap length c.push.ensures ∙ length-append c.args.line.now word)
