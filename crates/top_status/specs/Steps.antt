-- What the functions that print a status, or take a text, find piece by piece; Dead and Refusals
-- say it in one.
use Rattle.std.specs.Prelude.{ℕ, List, [], ◌∷◌, codes, decimal, length, Result, Ok, Err, if◌then◌else◌, nat_lt, Bool, true, false, Option, Some, None}
use Rattle.put_line.specs.Line.{line}
use Rattle.top_status.specs.declared.status.Status.TheVariants as status
use Rattle.top_status.specs.Refusals.{Refused, only, ◌then◌}
use Rattle.eng_cols.specs.declared.column.Column.{Column}
use Rattle.eng_cols.specs.declared.column.Column.TheVariants as column

-- dead C
unfoldable pub dead_line : ℕ → List ℕ
dead_line c = line (codes "dead " ∷ decimal c ∷ codes "\n" ∷ [])

-- a text of a name, of at most 16 MiB
abbrev pub short_text : (name text : List ℕ) → Result (List ℕ) Refused
short_text name text = if nat_lt 16777216 (length text) then Err (only (status.LongText name)) else Ok text

-- there is a column there, and it is dead
abbrev pub is_dead_column : Option Column → Bool
is_dead_column (Some column.Dead) = true
is_dead_column (Some (column.Live device)) = false
is_dead_column (Some (column.Filling device done)) = false
is_dead_column (Some column.Spread) = false
is_dead_column None = false
