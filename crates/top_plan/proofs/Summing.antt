-- Sums, one number after another.
use Rattle.std.proofs.Common.{◌≡◌, ◌+◌, ◌∙◌, ℕ, suc, ap, refl, arith}
use Rattle.graph_mean.specs.Fewest.{sum_below}

pub sum-none : (f : ℕ → ℕ) → 0 ≡ sum_below f 0
unfolding sum_below
sum-none f = refl

pub sum-more : (f : ℕ → ℕ) (n : ℕ) → sum_below f n + f n ≡ sum_below f (n + 1)
unfolding sum_below
sum-more f n =
    let next : suc n ≡ n + 1 = omega arith in
    let turned : sum_below f n + f n ≡ f n + sum_below f n = omega arith in
    turned ∙ ap (λ (m : ℕ). sum_below f m) next
