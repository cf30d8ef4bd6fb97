-- Columns on which fewer stripes are done than on others, and columns as they are read.
use Rattle.std.specs.Prelude.{◌≡◌, ◌⊎◌, ◌<◌, ◌≤◌, ℕ, List, true, Option, Some, None, slice_get}
use Rattle.lay_core.specs.declared.place.Place.{Place}
use Rattle.lay_core.specs.Layout.{Shape}
use Rattle.eng_cols.specs.declared.column.Column.{Column}
use Rattle.eng_cols.specs.declared.column.Column.TheVariants as column
use Rattle.eng_cols.specs.declared.spot.Spot.{Spot}
use Rattle.eng_cols.specs.Cols.{ColumnState, Live, Dead, Filling, Spread, is_done_on}
use Rattle.eng_cols.specs.Seats.{IsStripeOf, IsWhole, open_on}
use Rattle.eng_cols.specs.Stripes.{are_spread, leading, spreads}

-- Column c has no device but the one that it had, is spread only if it was, and of its stripes none is done that wasn't.
pub record IsFewerOn (y : Shape) (old new : List ColumnState) (c : ℕ) : Type 0 where
  pub device : (p : Place) (at : Spot) → open_on (slice_get new c) p ≡ Some at → open_on (slice_get old c) p ≡ Some at
  pub spread : are_spread new c ≡ true → are_spread old c ≡ true
  pub done : (s : ℕ) → s < y.stripes → IsStripeOf y old c s → is_done_on (slice_get new c) s ≡ true → is_done_on (slice_get old c) s ≡ true

abbrev pub AreFewer : Shape → List ColumnState → List ColumnState → Type 0
AreFewer y old new = (c : ℕ) → IsFewerOn y old new c

-- How a column is read: one that is filling with no more stripes than are done with all before them, or as live where it is whole; one that is spread where it is whole; and each maybe as dead.
abbrev pub IsReadOn : Shape → List ColumnState → ℕ → Option ColumnState → Option Column → Type 0
IsReadOn y cols c (Some (Live device)) kept = (kept ≡ Some (column.Live device)) ⊎ (kept ≡ Some column.Dead)
IsReadOn y cols c (Some Dead) kept = kept ≡ Some column.Dead
IsReadOn y cols c (Some (Filling device done)) kept =
    (IsWhole y cols c × (kept ≡ Some (column.Live device))) ⊎ (((m : ℕ) × (m ≤ leading y cols c) × (kept ≡ Some (column.Filling device m))) ⊎ (kept ≡ Some column.Dead))
IsReadOn y cols c (Some (Spread done)) kept = (IsWhole y cols c × (kept ≡ Some column.Spread)) ⊎ (kept ≡ Some column.Dead)
IsReadOn y cols c None kept = kept ≡ None

-- All columns are read so. Where one is filling, those are spread still that were: else its stripes would be others.
pub record AreRead (y : Shape) (cols : List ColumnState) (kept : List Column) : Type 0 where
  pub each : (c : ℕ) → IsReadOn y cols c (slice_get cols c) (slice_get kept c)
  pub spread : (c device done : ℕ) → slice_get kept c ≡ Some (column.Filling device done) → (k : ℕ) → spreads kept k ≡ are_spread cols k

-- Columns of which some have died. Where one is filling still, those are spread that were: else its stripes would be others.
pub record DieApart (old new : List Column) : Type 0 where
  pub each : (c : ℕ) → (slice_get new c ≡ slice_get old c) ⊎ (slice_get new c ≡ Some column.Dead)
  pub spread : (c device done : ℕ) → slice_get new c ≡ Some (column.Filling device done) → (k : ℕ) → spreads new k ≡ spreads old k
