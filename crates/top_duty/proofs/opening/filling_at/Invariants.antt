use Rattle.std.proofs.Common.{◌≡◌, None}
use Rattle.std.specs.Prelude.{slice_get}
use Rattle.eng_cols.specs.Cols.{is_set_filling, passes}
use Rattle.top_duty.specs.First.{first_of}
use Rattle.top_duty.proofs.opening.filling_at.Given as goal

-- none of the columns so far is filling
abbrev pub invariant-loop-column : goal.invariant-loop-column
invariant-loop-column l = first_of (λ i. passes is_set_filling (slice_get l.columns i)) l.column ≡ None
