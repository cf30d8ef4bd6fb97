-- What becomes of a column that was being rebuilt, as the run ends.
use Rattle.std.specs.Prelude.{◌≡◌, ◌⊎◌, ℕ, List, Option, Some, None, length, slice_get}
use Rattle.lay_core.specs.Layout.{Shape}
use Rattle.eng_cols.specs.declared.column.Column.{Column}
use Rattle.eng_cols.specs.declared.column.Column.TheVariants as column
use Rattle.eng_cols.specs.Cols.{ColumnState, Live, Dead, Filling, Spread}
use Rattle.eng_cols.specs.Seats.{IsWhole, HasStripeLeft}
use Rattle.eng_cols.specs.Stripes.{leading}

-- A spread column that isn't whole dies, and all others are as they were.
abbrev pub SpreadEnds : Shape → List ColumnState → ℕ → Option ColumnState → Option ColumnState → Type 0
SpreadEnds y cols c (Some (Spread done)) after = (IsWhole y cols c × (after ≡ Some (Spread done))) ⊎ (HasStripeLeft y cols c × (after ≡ Some Dead))
SpreadEnds y cols c (Some (Live device)) after = after ≡ Some (Live device)
SpreadEnds y cols c (Some Dead) after = after ≡ Some Dead
SpreadEnds y cols c (Some (Filling device done)) after = after ≡ Some (Filling device done)
SpreadEnds y cols c None after = after ≡ None

-- Then a filling column that is whole is live. In one that isn't those stripes are done that are so with all of its stripes before them.
abbrev pub FillingEnds : Shape → List ColumnState → ℕ → Option ColumnState → Option Column → Type 0
FillingEnds y cols c (Some (Filling device done)) kept = (IsWhole y cols c × (kept ≡ Some (column.Live device))) ⊎ (HasStripeLeft y cols c × (kept ≡ Some (column.Filling device (leading y cols c))))
FillingEnds y cols c (Some (Live device)) kept = kept ≡ Some (column.Live device)
FillingEnds y cols c (Some Dead) kept = kept ≡ Some column.Dead
FillingEnds y cols c (Some (Spread done)) kept = kept ≡ Some column.Spread
FillingEnds y cols c None kept = kept ≡ None

-- The columns as they are kept at the end of a run: first spread ones are judged, then, by what that leaves, filling ones.
pub record ClosesAs (y : Shape) (cols : List ColumnState) (kept : List Column) : Type 0 where
  pub mid : List ColumnState
  pub count : length mid ≡ length cols
  pub spread : (c : ℕ) → SpreadEnds y cols c (slice_get cols c) (slice_get mid c)
  pub filling : (c : ℕ) → FillingEnds y mid c (slice_get mid c) (slice_get kept c)
