-- Counts, and the first places at which something holds.
use Rattle.std.specs.Prelude.{◌≡◌, ◌<◌, ◌+◌, ◌⊎◌, ℕ, zero, suc, Bool, true, false, Option, Some, None, cond}

-- how many of 0 to n - 1 pass a test
unfoldable pub count_below : (ℕ → Bool) → ℕ → ℕ
count_below f zero = 0
count_below f (suc n) = cond (f n) (1 + count_below f n) (count_below f n)

-- the first of 0 to n - 1 that passes a test, if one does
abbrev pub IsFirst : (ℕ → Bool) → ℕ → Option ℕ → Type 0
IsFirst f n None = (i : ℕ) → i < n → f i ≡ false
IsFirst f n (Some i) = (i < n) × (f i ≡ true) × ((j : ℕ) → j < i → f j ≡ false)

-- a row and a place in it
abbrev pub IsBefore : ℕ → ℕ → ℕ → ℕ → Type 0
IsBefore s j t i = (s < t) ⊎ ((s ≡ t) × (j < i))

-- in n rows of k places each no place passes a test
abbrev pub IsNowhere : (ℕ → ℕ → Bool) → ℕ → ℕ → Type 0
IsNowhere f n k = (t i : ℕ) → t < n → i < k → f t i ≡ false

-- place i of row t is the first that passes a test, row by row
pub record IsFirstPlace (f : ℕ → ℕ → Bool) (n k t i : ℕ) : Type 0 where
  pub row : t < n
  pub place : i < k
  pub passes : f t i ≡ true
  pub rows_before : (s j : ℕ) → s < t → j < k → f s j ≡ false
  pub places_before : (j : ℕ) → j < i → f t j ≡ false
