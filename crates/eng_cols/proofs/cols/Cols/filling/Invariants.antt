use Rattle.std.proofs.Common.{◌≡◌, ◌<◌, ℕ, false, slice_get}
use Rattle.eng_cols.specs.Cols.{is_filling, passes}
use Rattle.eng_cols.proofs.cols.Cols.filling.Given as goal

-- none of the columns so far is filling
abbrev pub invariant-loop-column : goal.invariant-loop-column
invariant-loop-column l = (c : ℕ) → c < l.column → passes is_filling (slice_get l.self.states c) ≡ false
