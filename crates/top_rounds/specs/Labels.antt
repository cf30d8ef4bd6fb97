-- What the labels of a round say.
use Rattle.std.specs.Prelude.{◌≡◌, ℕ, suc, ◌<◌, ◌+◌, ◌-◌, List, [], ◌∷◌, ◌++◌, length, map, replicate, if◌then◌else◌, nat_lt, unwrap_or}
use Rattle.eng_cols.specs.declared.column.Column.{Column}
use Rattle.eng_cols.specs.declared.column.Column.TheVariants as column
use Rattle.eng_cols.specs.Cols.{is_set_filling}
use Rattle.eng_cols.specs.Stripes.{done_set}
use Rattle.raid_label.specs.declared.label.Label.{Label}
use Rattle.raid_label.specs.Bytes.{IsHeld}

-- of n columns, one that has a device has a column's disk or one of 8 spares
abbrev pub IsNumbered : ℕ → Column → Type 0
IsNumbered n (column.Live device) = device < n + 8
IsNumbered n column.Dead = Unit {0}
IsNumbered n (column.Filling device done) = device < n + 8
IsNumbered n column.Spread = Unit {0}

-- of n columns the seat of one on this device: 0 for the column's own disk, j + 1 for spare j, which is device n + j
abbrev pub device_seat : ℕ → ℕ → ℕ
device_seat n device = if nat_lt device n then 0 else device + 1 - n

-- the seat of a column: that of its device; 254 for the spare places of the other columns; 255 where it is dead
abbrev pub seat_of : ℕ → Column → ℕ
seat_of n (column.Live device) = if nat_lt device n then 0 else device + 1 - n
seat_of n column.Dead = 255
seat_of n (column.Filling device done) = if nat_lt device n then 0 else device + 1 - n
seat_of n column.Spread = 254

-- a seat for each column, and 0 past them, 32 in all
abbrev pub seats_of : List Column → List ℕ
seats_of columns = map (seat_of (length columns)) columns ++ replicate (32 - length columns) 0

-- the label of a round as column c has it
abbrev pub for_column : Label → ℕ → Label
for_column label c = record label { column = c }

-- ## The column that is filling

-- the first column from number c on that is filling, plus 1; 0 where none is
abbrev pub filling_from : List Column → ℕ → ℕ
filling_from [] c = 0
filling_from (x ∷ columns) c = if is_set_filling x then c + 1 else filling_from columns (suc c)

-- how many of its stripes are done; 0 where none is
abbrev pub done_in : List Column → ℕ
done_in [] = 0
done_in (x ∷ columns) = unwrap_or (done_set x) (done_in columns)

-- a column that was filling is dead
abbrev pub unless_filling : Column → Column
unless_filling x = if is_set_filling x then column.Dead else x

-- the columns of an array that is lost: none is filling any more, and one that was is dead
abbrev pub given_up : List Column → List Column
given_up columns = map (λ x. if is_set_filling x then column.Dead else x) columns

-- ## The label of a round

-- what a label says of the columns, and the version by whose rules
pub record Seating : Type 0 where
  pub version : ℕ
  pub seats : List ℕ
  pub filling : ℕ
  pub done : ℕ

abbrev pub seating_in : Label → Seating
seating_in label = record { version = label.version; seats = label.seats; filling = label.filling; done = label.done }

-- what a round says of them: a seat for each column, and 0 past them, 32 in all
abbrev pub seating_of : List Column → Seating
seating_of columns = record {
  version = 2;
  seats = map (seat_of (length columns)) columns ++ replicate (32 - length columns) 0;
  filling = filling_from columns 0;
  done = done_in columns;
}

-- the label of a round: its counter, its clean field and its seating; all else is as before
abbrev pub with_round : Label → ℕ → ℕ → Seating → Label
with_round label counter clean seating = record label { version = seating.version; counter = counter; clean = clean; seats = seating.seats; filling = seating.filling; done = seating.done }

-- the label is one of an array of so many columns, and may be written
pub record IsLabelFor (columns : List Column) (label : Label) : Type 0 where
  pub held : IsHeld label
  pub count : label.columns ≡ length columns
