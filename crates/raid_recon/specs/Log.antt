-- The turns of all stripes, one after another. A log has the newest turn first; so a turn is that of the stripe whose number is the number of turns behind it.
use Rattle.std.specs.Prelude.{◌≡◌, ℕ, ◌+◌, List, [], ◌∷◌, length, true, Option, Some, None, if◌then◌else◌, ◌==◌, slice_set}
use Rattle.lay_core.specs.Layout.{Shape}
use Rattle.eng_cols.specs.declared.column.Column.{Column}
use Rattle.eng_cols.specs.declared.column.Column.TheVariants as column
use Rattle.eng_cols.specs.Contents.{Contents}
use Rattle.eng_cols.specs.Cols.{ColumnState}
use Rattle.raid_recon.specs.declared.kind.Sweep.{Sweep}
use Rattle.eng_cols.specs.Stripes.{states_of}
use Rattle.raid_recon.specs.Array.{IsCheckSector}
use Rattle.raid_recon.specs.Turns.{Turn, does_count, does_write, IsTurn, failed_at}
use Rattle.std.specs.Option.{option_map_or}
use Rattle.eng_cols.specs.declared.spot.Spot.{Spot}

-- the columns behind these turns, of which each leaves the column dead whose device failed
abbrev pub columns_in : Shape → List Column → List Turn → List Column
columns_in y columns [] = columns
columns_in y columns (t ∷ ts) =
    let before = columns_in y columns ts in
    option_map_or (λ (at : Spot). slice_set before at.column column.Dead) (failed_at y (states_of y before) (length ts) t) before

-- how many of them count
abbrev pub count_in : List Turn → ℕ
count_in [] = 0
count_in (t ∷ ts) = count_in ts + (if does_count t then 1 else 0)

-- the turn of stripe s
abbrev pub turn_at : List Turn → ℕ → Option Turn
turn_at [] s = None
turn_at (t ∷ ts) s = if s == length ts then Some t else turn_at ts s

-- each is its stripe's turn, by the columns that the turns before it have left, and the contents before all
abbrev pub AreTurns : Type 0 → Sweep → Shape → Contents → List Column → List Turn → Type 0
AreTurns told kind y contents columns [] = Unit {0}
AreTurns told kind y contents columns (t ∷ ts) = AreTurns told kind y contents columns ts × IsTurn told kind y contents (states_of y (columns_in y columns ts)) (length ts) t

-- sector n of device d is one of a check unit that was written, or whose write failed
pub record IsRewritten (y : Shape) (cols : List ColumnState) (turns : List Turn) (d n : ℕ) : Type 0 where
  pub stripe : ℕ
  pub turn : Turn
  pub is : turn_at turns stripe ≡ Some turn
  pub writes : does_write turn ≡ true
  pub sector : IsCheckSector y cols stripe d n
