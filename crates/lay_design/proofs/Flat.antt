-- Tuples one after the other.
use Rattle.std.specs.Prelude.{◌≡◌, ◌+◌, ◌++◌, ℕ, List, [], ◌∷◌, map}
use Rattle.std.specs.List.{range_with_len}
use Rattle.std.proofs.Common.{arith, ap, ◌∙◌}
use Rattle.std.proofs.lemmas.List.{append-nil}
use Rattle.std.proofs.lemmas.List.FromFn.{map-range_with_len_more}
use Rattle.std.proofs.lemmas.List.Concat.{flat_map-cons}
use Rattle.std.proofs.lemmas.Grind.{flat_map-append}
use Rattle.lay_design.specs.Families.{flat}

-- one more tuple
pub flat_last : (xs : List (List ℕ)) (x : List ℕ) → flat (xs ++ x ∷ []) ≡ flat xs ++ x
flat_last xs x = flat_map-append (λ t. t) xs (x ∷ []) ∙ ap (λ l. flat xs ++ l) (flat_map-cons (λ t. t) x [] ∙ append-nil x)

pub flat_more : (f : ℕ → List ℕ) (n : ℕ) → flat (map f (range_with_len 0 (n + 1))) ≡ flat (map f (range_with_len 0 n)) ++ f n
flat_more f n = ap flat (map-range_with_len_more f 0 n n (omega arith)) ∙ flat_last (map f (range_with_len 0 n)) (f n)
