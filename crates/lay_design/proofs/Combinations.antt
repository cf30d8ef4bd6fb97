-- Tuples of k of n objects, and their number.
use Rattle.std.specs.Prelude.{◌≡◌, ◌<◌, ◌≤◌, ◌+◌, ◌-◌, ◌++◌, ℕ, zero, suc, List, [], ◌∷◌, map, take, length}
use Rattle.std.proofs.Common.{arith, refl, ap, sym, ◌∙◌, length-append}
use Rattle.std.proofs.Math.Seq.{take-append_seam}
use Rattle.std.proofs.lemmas.List.{append-nil, append_assoc, map-append}
use Rattle.std.proofs.lemmas.List.Concat.{flat_map-cons}
use Rattle.std.proofs.lemmas.Grind.{flat_map-append}
use Rattle.lay_design.specs.Families.{choose, subsets, flat}

pub choose_none : (n : ℕ) → choose n 0 ≡ 1
choose_none zero = refl
choose_none (suc n) = refl

pub choose_few : (n k : ℕ) → n < k → choose n k ≡ 0
choose_few n zero h = absurd (omega (arith, h))
choose_few zero (suc k) h = refl
choose_few (suc n) (suc k) h = omega (arith, choose_few n k (omega (arith, h)), choose_few n (suc k) (omega (arith, h)))

pub choose_step : (n k : ℕ) → 0 < n → 0 < k → choose n k ≡ choose (n - 1) (k - 1) + choose (n - 1) k
choose_step zero k hn hk = absurd (omega (arith, hn))
choose_step (suc n) zero hn hk = absurd (omega (arith, hk))
choose_step (suc n) (suc k) hn hk =
    let en : suc n - 1 ≡ n = omega arith in
    let ek : suc k - 1 ≡ k = omega arith in
    rw (en, ek) refl

pub subsets_none : (first n : ℕ) → subsets first n 0 ≡ [] ∷ []
subsets_none first zero = refl
subsets_none first (suc n) = refl

pub subsets_few : (first n k : ℕ) → n < k → subsets first n k ≡ []
subsets_few first n zero h = absurd (omega (arith, h))
subsets_few first zero (suc k) h = refl
subsets_few first (suc n) (suc k) h =
    ap (λ l. map (λ tuple. first ∷ tuple) l ++ subsets (first + 1) n (suc k)) (subsets_few (first + 1) n k (omega (arith, h)))
    ∙ subsets_few (first + 1) n (suc k) (omega (arith, h))

pub subsets_step : (first n k : ℕ) → 0 < n → 0 < k → subsets first n k ≡ map (λ tuple. first ∷ tuple) (subsets (first + 1) (n - 1) (k - 1)) ++ subsets (first + 1) (n - 1) k
subsets_step first zero k hn hk = absurd (omega (arith, hn))
subsets_step first (suc n) zero hn hk = absurd (omega (arith, hk))
subsets_step first (suc n) (suc k) hn hk =
    let en : suc n - 1 ≡ n = omega arith in
    let ek : suc k - 1 ≡ k = omega arith in
    rw (en, ek) refl

-- tuples behind the same front, one after the other
abbrev pub behind : List ℕ → List (List ℕ) → List ℕ
behind front tuples = flat (map (λ tuple. front ++ tuple) tuples)

fuse : (front : List ℕ) (first : ℕ) (tuples : List (List ℕ)) → map (λ tuple. front ++ tuple) (map (λ tuple. first ∷ tuple) tuples) ≡ map (λ tuple. (front ++ first ∷ []) ++ tuple) tuples
fuse front first [] = refl
fuse front first (x ∷ xs) =
    ap (λ y. y ∷ map (λ tuple. front ++ tuple) (map (λ tuple. first ∷ tuple) xs)) (sym (append_assoc front (first ∷ []) x))
    ∙ ap (λ l. ((front ++ first ∷ []) ++ x) ∷ l) (fuse front first xs)

pub behind_none : (front : List ℕ) (first n : ℕ) → behind front (subsets first n 0) ≡ front
behind_none front first n = ap (behind front) (subsets_none first n) ∙ flat_map-cons (λ t. t) (front ++ []) [] ∙ append-nil (front ++ []) ∙ append-nil front

pub behind_few : (front : List ℕ) (first n k : ℕ) → n < k → behind front (subsets first n k) ≡ []
behind_few front first n k h = ap (behind front) (subsets_few first n k h)

pub behind_step : (front : List ℕ) (first n k : ℕ) → 0 < n → 0 < k → behind front (subsets first n k) ≡ behind (front ++ first ∷ []) (subsets (first + 1) (n - 1) (k - 1)) ++ behind front (subsets (first + 1) (n - 1) k)
behind_step front first n k hn hk =
    let with = subsets (first + 1) (n - 1) (k - 1) in
    let without = subsets (first + 1) (n - 1) k in
    ap (behind front) (subsets_step first n k hn hk)
    ∙ ap flat (map-append (λ tuple. front ++ tuple) (map (λ tuple. first ∷ tuple) with) without)
    ∙ flat_map-append (λ t. t) (map (λ tuple. front ++ tuple) (map (λ tuple. first ∷ tuple) with)) (map (λ tuple. front ++ tuple) without)
    ∙ ap (λ l. flat l ++ behind front without) (fuse front first with)

-- no front
pub behind_nothing : (tuples : List (List ℕ)) → behind [] tuples ≡ flat tuples
behind_nothing tuples = ap flat (same tuples)
  where
    same : (xs : List (List ℕ)) → map (λ tuple. [] ++ tuple) xs ≡ xs
    same [] = refl
    same (x ∷ xs) = ap (λ l. x ∷ l) (same xs)

-- fewer tuples have an object
pub choose_fewer : (n k : ℕ) → 0 < n → 0 < k → choose (n - 1) (k - 1) ≤ choose n k
choose_fewer n k hn hk = omega (arith, choose_step n k hn hk)

pub choose_fewest : (n k : ℕ) → 2 ≤ n → 2 ≤ k → choose (n - 2) (k - 2) ≤ choose n k
choose_fewest n k hn hk =
    let en : n - 2 ≡ n - 1 - 1 = omega arith in
    let ek : k - 2 ≡ k - 1 - 1 = omega arith in
    rw (en, ek) (omega (arith, choose_fewer (n - 1) (k - 1) (omega (arith, hn)) (omega (arith, hk)), choose_fewer n k (omega (arith, hn)) (omega (arith, hk))))

-- a list without its last element
pub without_last : (xs : List ℕ) (x : ℕ) → take (length (xs ++ x ∷ []) - 1) (xs ++ x ∷ []) ≡ xs
without_last xs x =
    let long : length (xs ++ x ∷ []) - 1 ≡ length xs = omega (arith, length-append xs (x ∷ [])) in
    ap (λ n. take n (xs ++ x ∷ [])) long ∙ take-append_seam xs (x ∷ [])
