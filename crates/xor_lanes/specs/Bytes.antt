-- Bytes of which a front has been worked through.
use Rattle.std.specs.Prelude.{◌≡◌, ℕ, ◌<◌, ◌≤◌, List, slice_index, bit_xor}

-- below `end` the target holds its sum with the source, and from there on what it held
pub record SumsBelow (old source new : List ℕ) (end : ℕ) : Type 0 where
  pub summed : (k : ℕ) → k < end → slice_index new k ≡ bit_xor (slice_index old k) (slice_index source k)
  pub kept : (k : ℕ) → end ≤ k → slice_index new k ≡ slice_index old k

-- below `end` each byte is 0
abbrev pub IsZeroBelow : List ℕ → ℕ → Type 0
IsZeroBelow bytes end = (k : ℕ) → k < end → slice_index bytes k ≡ 0
