-- Sums over the numbers below another, as sums over lists.
use Rattle.std.proofs.Common.{◌≡◌, ◌∙◌, ℕ, zero, suc, ◌+◌, List, [], ◌∷◌, length, take, refl, sym, ap, arith}
use Rattle.std.specs.Prelude.{Option, Some, None, slice_get, sum_by}
use Rattle.std.proofs.lemmas.List.Sums.{sum_by-cons}
use Rattle.eng_world.specs.declared.item.Item.{Item}
use Rattle.item_list.specs.ItemList.{ItemList}
use Rattle.eng_rest.specs.Left.{below}
use Rattle.eng_log.specs.Given.{items_in, items_at}

-- the first term apart
pub below-front : (f : ℕ → ℕ) (n : ℕ) → below f (suc n) ≡ f 0 + below (λ i. f (suc i)) n
unfolding below
below-front f zero = refl
below-front f (suc n) =
    let rest = below-front f n in
    let turn : f (suc n) + (f 0 + below (λ i. f (suc i)) n) ≡ f 0 + (f (suc n) + below (λ i. f (suc i)) n) = omega arith in
    ap (λ k. f (suc n) + k) rest ∙ turn

-- no term
pub below-zero : (f : ℕ → ℕ) → below f 0 ≡ 0
unfolding below
below-zero f = refl

-- terms that are nothing
pub below-nothing : (f : ℕ → ℕ) (n : ℕ) → ((i : ℕ) → f i ≡ 0) → below f n ≡ 0
unfolding below
below-nothing f zero none = refl
below-nothing f (suc n) none = let rest = below-nothing f n none in let here = none n in omega (arith, rest, here)

-- what a list has at each number, and nothing past its end
pub below-get : {X : Type 0} (f : Option X → ℕ) → f None ≡ 0 → (xs : List X) (n : ℕ) → below (λ i. f (slice_get xs i)) n ≡ sum_by (λ x. f (Some x)) (take n xs)
unfolding below
below-get f none [] zero = below-nothing (λ i. f (slice_get [] i)) 0 (λ i. none)
below-get f none [] (suc n) = below-nothing (λ i. f (slice_get [] i)) (suc n) (λ i. none)
below-get f none (x ∷ xs) zero = refl
below-get {X} f none (x ∷ xs) (suc n) =
    below-front (λ i. f (slice_get (x ∷ xs) i)) n ∙ (ap (λ k. f (Some x) + k) (below-get f none xs n) ∙ sym (sum_by-cons (λ (y : X). f (Some y)) x (take n xs)))

-- all that a list has
pub below-all : {X : Type 0} (f : Option X → ℕ) (xs : List X) → below (λ i. f (slice_get xs i)) (length xs) ≡ sum_by (λ x. f (Some x)) xs
unfolding below
below-all f [] = refl
below-all {X} f (x ∷ xs) =
    below-front (λ i. f (slice_get (x ∷ xs) i)) (length xs) ∙ (ap (λ k. f (Some x) + k) (below-all f xs) ∙ sym (sum_by-cons (λ (y : X). f (Some y)) x xs))

-- what the first clients have together
pub below-clients : (f : List Item → ℕ) → f [] ≡ 0 → (given : List ItemList) (c : ℕ) → below (λ k. f (items_at given k)) c ≡ sum_by (λ (row : ItemList). f row.items) (take c given)
below-clients f none given c = below-get (λ (row : Option ItemList). f (items_in row)) none given c

-- the same terms
pub below-same : (f g : ℕ → ℕ) (n : ℕ) → ((i : ℕ) → f i ≡ g i) → below f n ≡ below g n
unfolding below
below-same f g zero same = refl
below-same f g (suc n) same = let here = same n in let rest = below-same f g n same in omega (arith, here, rest)
