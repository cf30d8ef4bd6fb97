use Rattle.std.proofs.Common.{◌≡◌, drop}
use Rattle.eng_cols.specs.Cols.{none_done}
use Rattle.eng_cols.specs.Stripes.{filled_from, filled_in, spreads}
use Rattle.eng_cols.proofs.stripes.fill_first.Given as goal

-- none of the columns so far is filling
abbrev pub invariant-loop-column : goal.invariant-loop-column
invariant-loop-column g l =
    (l.filled.items ≡ none_done (g.L.Layout.shape l.layout).stripes)
    × (filled_from (g.L.Layout.shape l.layout) (spreads l.columns) (drop l.column l.columns) l.column ≡ filled_in (g.L.Layout.shape l.layout) l.columns)
