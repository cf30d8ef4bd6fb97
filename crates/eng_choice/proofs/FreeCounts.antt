-- How many stripes are free, of a span and of its operation.
use Rattle.std.proofs.Common.{◌≡◌, ◌↔◌, ℕ, Bool, true, false, is_some, sym, ◌∙◌, Option, Some, None}
use Rattle.eng_choice.specs.Free.{IsFreeCount}

-- whether there is a count tells whether they are free
pub free-some : (o : Option ℕ) (b : Bool) (Free : Type 0) (count : ℕ) → b ≡ is_some o → IsFreeCount o Free count → (b ≡ true) ↔ Free
free-some None b Free count is h = (λ yes_. absurd (let z : true ≡ false = sym yes_ ∙ is in let u : ⊥ = cc in u), λ free. absurd (h free))
free-some (Some n) b Free count is h = (λ yes_. h.0, λ free. is)

-- what is free of the span is free of its operation
pub free-same : (o : Option ℕ) (Free Same : Type 0) (count same : ℕ) → (Free → Same) → (Same → Free) → count ≡ same → IsFreeCount o Free count → IsFreeCount o Same same
free-same None Free Same count same to from e h = λ s. h (from s)
free-same (Some n) Free Same count same to from e h = (to h.0, h.1 ∙ e, h.2)
