-- Designs that a few numbers stand for.
use Rattle.std.specs.Prelude.{◌≡◌, ◌≤◌, ◌+◌, ◌++◌, ◌-◌, ◌*◌, ◌/◌, ◌%◌, ◌⊎◌, ℕ, zero, suc, List, [], ◌∷◌, map, length}
use Rattle.std.specs.List.{flat_map, range_with_len}
use Rattle.lay_design.specs.declared.fault.DesignFault.{DesignFault}
use Rattle.lay_design.specs.declared.fault.DesignFault.TheVariants.{Memory}
use Rattle.lay_design.specs.Design.{Blocks, IsFault}

-- tuples one after the other
abbrev pub flat : List (List ℕ) → List ℕ
flat tuples = flat_map (λ tuple. tuple) tuples

-- the base tuple, moved on by t around the v objects
abbrev pub moved : ℕ → List ℕ → ℕ → List ℕ
moved v base t = map (λ x. (x + t) % v) base

-- v tuples: the base tuple moved on by 0 to v - 1. Each object is to stand in as many as the base tuple has, k, and each two in k (k - 1) / (v - 1)
abbrev pub cyclic : ℕ → List ℕ → Blocks
cyclic v base = record {
  b = v;
  v = v;
  k = length base;
  r = length base;
  lambda = length base * (length base - 1) / (v - 1);
  objects = flat_map (λ tuple. tuple) (map (λ t. map (λ x. (x + t) % v) base) (range_with_len 0 v));
}

-- how many tuples of k of n objects there are: Pascal's rule
abbrev pub choose : ℕ → ℕ → ℕ
choose n zero = 1
choose zero (suc k) = 0
choose (suc n) (suc k) = choose n k + choose n (suc k)

-- the tuples of k of the n objects from first on, each ascending, in lexicographic order: those with the first object, and then those without it
abbrev pub subsets : ℕ → ℕ → ℕ → List (List ℕ)
subsets first n zero = [] ∷ []
subsets first zero (suc k) = []
subsets first (suc n) (suc k) = map (λ tuple. first ∷ tuple) (subsets (first + 1) n k) ++ subsets (first + 1) n (suc k)

-- all tuples of k of v objects, of which as many have an object as there are tuples of k - 1 of the others, and two objects as there are of k - 2 of the rest
abbrev pub complete : ℕ → ℕ → Blocks
complete v k = record {
  b = choose v k;
  v = v;
  k = k;
  r = choose (v - 1) (k - 1);
  lambda = choose (v - 2) (k - 2);
  objects = flat_map (λ tuple. tuple) (subsets 0 v k);
}

-- there is no memory for the tuples, where their numbers are within the limits, or they are no design
abbrev pub IsRefused : Blocks → DesignFault → Type 0
IsRefused d fault = ((fault ≡ Memory) × (2 ≤ d.v) × (d.v ≤ 32) × (2 ≤ d.k) × (d.k ≤ d.v)) ⊎ IsFault d fault
