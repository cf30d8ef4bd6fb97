-- A list that is filled up with None.
use Rattle.std.proofs.Common.{◌≡◌, ℕ, zero, suc, ◌-◌, ◌<◌, List, [], ◌∷◌, ◌++◌, Option, None, length, replicate, refl, ap, arith}
use Rattle.std.specs.Prelude.{slice_set, slice_index_or}
use Rattle.eng_cols.specs.declared.spot.Spot.{Spot}
use Rattle.eng_clients.specs.Spots.{padded}

none-at : (n k : ℕ) → slice_index_or (replicate {A = Option Spot} n None) k None ≡ None
none-at zero k = refl
none-at (suc n) zero = refl
none-at (suc n) (suc k) = none-at n k

pub padded-none : (n : ℕ) → padded n [] ≡ replicate n None
unfolding padded
padded-none n = refl

pub padded-get : (n : ℕ) (xs : List (Option Spot)) (k : ℕ) → slice_index_or (padded n xs) k None ≡ slice_index_or xs k None
unfolding padded
padded-get n [] k = none-at n k
padded-get n (x ∷ xs) zero = refl
padded-get n (x ∷ xs) (suc k) = padded-get (n - 1) xs k

pub padded-set : (n : ℕ) (xs : List (Option Spot)) (k : ℕ) (at : Option Spot) → k < length xs → padded n (slice_set xs k at) ≡ slice_set (padded n xs) k at
unfolding padded
padded-set n [] k at lt = absurd (omega arith)
padded-set n (x ∷ xs) zero at lt = refl
padded-set n (x ∷ xs) (suc k) at lt = ap (λ (ys : List (Option Spot)). x ∷ ys) (padded-set (n - 1) xs k at (omega arith))

pub padded-push : (n : ℕ) (xs : List (Option Spot)) → length xs < n → padded n (xs ++ None ∷ []) ≡ padded n xs
unfolding padded
padded-push zero [] lt = absurd (omega arith)
padded-push (suc n) [] lt = let one : suc n - 1 ≡ n = omega arith in rw one refl
padded-push n (x ∷ xs) lt = ap (λ (ys : List (Option Spot)). x ∷ ys) (padded-push (n - 1) xs (omega arith))
