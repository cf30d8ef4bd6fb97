use Rattle.std.proofs.Common.{◌*◌, ◌++◌, ◌∷◌, [], ◌∙◌, ℕ, List, length, replicate, ap, refl}
use Rattle.std.specs.List.{concat}
use Rattle.std.proofs.lemmas.List.{length-replicate}
use Rattle.sector_store.proofs.Chosen.{chosen, zeros-chosen}
use Rattle.sector_store.proofs.store.Store.open.Goals as goal

pub returns-clause-zeros : goal.returns-clause-zeros
returns-clause-zeros c =
    ap (λ (k : List (List ℕ)). concat (chosen k c.in_ok-places.places.items)) (c.push_reserved.ensures.items ∙ ap (λ (l : List (List ℕ)). l ++ replicate 512 0 ∷ []) c.in_ok-kept.ensures.items)
    ∙ (ap (λ (p : List ℕ). concat (chosen (replicate 512 0 ∷ []) p)) (c.in_ok-places.ensures.items_if_clones_equal (λ y h. h)) ∙ zeros-chosen (replicate 512 0) c.args.count refl)

pub returns-clause-long : goal.returns-clause-long
returns-clause-long c = ap length (returns-clause-zeros c) ∙ length-replicate (512 * c.args.count) 0
