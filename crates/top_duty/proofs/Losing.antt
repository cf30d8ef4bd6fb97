-- By what an array is lost of which a column dies.
use Rattle.std.specs.Prelude.{◌≡◌, List, Option, Some, None, MatchOption}
use Rattle.std.proofs.Common.{subst}
use Rattle.lay_core.specs.Layout.{Shape}
use Rattle.eng_cols.specs.declared.spot.Loss.{Loss}
use Rattle.eng_cols.specs.Cols.{ColumnState}
use Rattle.eng_cols.specs.Lost.{IsLost, NotLost}
use Rattle.top_close.specs.Ended.{IsLossBy}

-- what is found of columns is what they are lost by
pub loss_found : (y : Shape) (states cols : List ColumnState) (loss : Option Loss) → states ≡ cols → MatchOption loss (NotLost y states) (IsLost y states) → IsLossBy y None cols loss
loss_found y states cols loss same found = subst (λ (l : List ColumnState). IsLossBy y None l loss) same (go loss found)
  where
    go : (r : Option Loss) → MatchOption r (NotLost y states) (IsLost y states) → IsLossBy y None states r
    go None h = h
    go (Some l) h = h
