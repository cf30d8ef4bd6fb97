-- Sets of numbers, a bit for each.
use Rattle.std.specs.Prelude.{◌≡◌, ℕ, ◌<◌, ◌≤◌, ◌/◌, ◌%◌, ◌==◌, List, Bool, true, if◌then◌else◌, length, slice_index_or}
use Rattle.std.specs.Int.{bit_at}

-- no bit of the word is set from this one on
abbrev pub NoBit : ℕ → ℕ → Type 0
NoBit word from = (k : ℕ) → from ≤ k → bit_at word k ≡ 0

-- the first bit of a word that is set from this one on
pub record IsFirstBit (word from bit : ℕ) : Type 0 where
  pub from_on : from ≤ bit
  pub below : bit < 64
  pub set : bit_at word bit ≡ 1
  pub least : (k : ℕ) → from ≤ k → k < bit → bit_at word k ≡ 0

-- the number is in the set: the bit for it is set, in words of 64
abbrev pub has : List ℕ → ℕ → Bool
has words n = bit_at (slice_index_or words (n / 64) 0) (n % 64) == 1

-- there are 32 words, and the bits of one more say which of them aren't 0
pub record AreWords (words : List ℕ) (blocks : ℕ) : Type 0 where
  pub long : length words ≡ 32
  pub filled : (w : ℕ) → w < 64 → bit_at blocks w ≡ (if slice_index_or words w 0 == 0 then 0 else 1)

-- no number is in the set from this one on
abbrev pub NoneFrom : (ℕ → Bool) → ℕ → Type 0
NoneFrom set from = (k : ℕ) → from ≤ k → set k ≡ true → ⊥

-- the first number from this one on that is
pub record IsFirstFrom (set : ℕ → Bool) (from n : ℕ) : Type 0 where
  pub from_on : from ≤ n
  pub here : set n ≡ true
  pub least : (k : ℕ) → from ≤ k → k < n → set k ≡ true → ⊥
