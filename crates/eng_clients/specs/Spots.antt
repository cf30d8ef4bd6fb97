-- Where the units of nodes stood, for as many nodes as there may be.
use Rattle.std.specs.Prelude.{ℕ, ◌-◌, List, [], ◌∷◌, Option, None, replicate}
use Rattle.eng_cols.specs.declared.spot.Spot.{Spot}

-- these, and none for each behind them, n in all
unfoldable pub padded : ℕ → List (Option Spot) → List (Option Spot)
padded n [] = replicate n None
padded n (at ∷ more) = at ∷ padded (n - 1) more
