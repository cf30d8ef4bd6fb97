-- How many columns aren't dead.
use Rattle.std.specs.Prelude.{ℕ, ◌||◌, Bool, List, Some, count_by}
use Rattle.eng_cols.specs.declared.column.Column.{Column}
use Rattle.eng_cols.specs.Cols.{has_device, is_set_spread}

-- the column isn't dead
abbrev pub is_alive : Column → Bool
is_alive x = has_device (Some x) || is_set_spread x

abbrev pub alive : List Column → ℕ
alive columns = count_by is_alive columns
