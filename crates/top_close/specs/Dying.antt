-- Columns that die, however many of them.
use Rattle.std.specs.Prelude.{◌≡◌, ◌⊎◌, ◌≤◌, ℕ, List, Some, length, slice_get}
use Rattle.eng_cols.specs.Cols.{ColumnState, Dead, HasDevice}
use Rattle.eng_cols.specs.Contents.{Contents}

-- whatever a column died of
abbrev pub AnyCause : ℕ → Type 0
AnyCause c = Unit {0}

-- Each column is what it was, or dead.
pub record OnlyDie (old new : List ColumnState) : Type 0 where
  pub count : length new ≡ length old
  pub each : (c : ℕ) → (slice_get new c ≡ slice_get old c) ⊎ (slice_get new c ≡ Some Dead)

-- the devices that these columns have hold the same from sector 64 on
abbrev pub HoldSame : List ColumnState → Contents → Contents → Type 0
HoldSame cols old new = (c d n k : ℕ) → HasDevice cols c d → 64 ≤ n → new d n k ≡ old d n k
