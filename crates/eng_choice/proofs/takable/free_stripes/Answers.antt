use Rattle.std.proofs.Common.{◌≡◌, true, false, sym, ◌∙◌}
use Rattle.eng_choice.proofs.takable.free_stripes.Goals as goal

pub returns-then-are_free : goal.returns-then-are_free
returns-then-are_free g c = (c.are_free.ensures.0 c.if-are_free.true, c.count_stripes.ensures.count, c.count_stripes.ensures.few)

pub returns-else-are_free : goal.returns-else-are_free
returns-else-are_free g c = λ free. let z : true ≡ false = sym (c.are_free.ensures.1 free) ∙ c.if-are_free.false in let u : ⊥ = cc in u
