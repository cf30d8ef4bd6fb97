-- Why a unit of a lost stripe is missing, by its column.
use Rattle.std.specs.Prelude.{◌≡◌, ◌⊎◌, ℕ, List, Bool, false, Some, slice_get}
use Rattle.lay_core.specs.declared.place.Place.{Place}
use Rattle.lay_core.specs.Layout.{Shape}
use Rattle.eng_cols.specs.declared.spot.Loss.{Loss}
use Rattle.eng_cols.specs.Cols.{ColumnState, Dead, Filling, Spread, is_done}

-- no place on the column stands for the stripe: the column is dead, or it is filling and that stripe is left
abbrev pub LacksPlace : List ColumnState → ℕ → ℕ → Type 0
LacksPlace cols s c = (slice_get cols c ≡ Some Dead)
    ⊎ ((device : ℕ) × (done : List Bool) × (slice_get cols c ≡ Some (Filling device done)) × (is_done done s ≡ false))

-- the column of the stripe's spare place is so
abbrev pub LacksSpare : Shape → List ColumnState → ℕ → Type 0
LacksSpare y cols s = (p : Place) × (y.spare s ≡ Some p) × LacksPlace cols s p.column

-- the column is spread, and that stripe is left there, or the column of its spare place is so
abbrev pub LacksSpread : Shape → List ColumnState → ℕ → ℕ → Type 0
LacksSpread y cols s c = (done : List Bool) × (slice_get cols c ≡ Some (Spread done)) × ((is_done done s ≡ false) ⊎ LacksSpare y cols s)

-- the stripe lacks a unit on the column
abbrev pub LacksUnit : Shape → List ColumnState → ℕ → ℕ → Type 0
LacksUnit y cols s c = LacksPlace cols s c ⊎ LacksSpread y cols s c

-- so it is on both columns of a loss
pub record LossLacksUnits (y : Shape) (cols : List ColumnState) (loss : Loss) : Type 0 where
  pub first : LacksUnit y cols loss.stripe loss.first
  pub second : LacksUnit y cols loss.stripe loss.second
