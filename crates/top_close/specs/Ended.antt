-- By what an array is lost in the end.
use Rattle.std.specs.Prelude.{◌≡◌, List, Option, Some, None}
use Rattle.lay_core.specs.Layout.{Shape}
use Rattle.eng_cols.specs.declared.column.Column.{Column}
use Rattle.eng_cols.specs.declared.column.Column.TheVariants as column
use Rattle.eng_cols.specs.declared.spot.Loss.{Loss}
use Rattle.eng_cols.specs.Cols.{ColumnState}
use Rattle.eng_cols.specs.Lost.{NotLost, IsLost}

-- A loss of before stays the loss. Else the array is lost by these columns, or isn't lost.
abbrev pub IsLossBy : Shape → Option Loss → List ColumnState → Option Loss → Type 0
IsLossBy y (Some before) cols lost = lost ≡ Some before
IsLossBy y None cols (Some loss) = IsLost y cols loss
IsLossBy y None cols None = NotLost y cols

-- the column is live
abbrev pub IsLive : Column → Type 0
IsLive (column.Live device) = Unit {0}
IsLive column.Dead = ⊥
IsLive (column.Filling device done) = ⊥
IsLive column.Spread = ⊥
