-- Whether an array is in doubt.
use Rattle.std.specs.Prelude.{ℕ, ◌==◌, ◌||◌, Bool, true, false, Option, Some, None, if◌then◌else◌, nat_lt}
use Rattle.std.specs.List.{count_by}
use Rattle.eng_cols.specs.declared.column.Column.{Column}
use Rattle.eng_cols.specs.declared.column.Column.TheVariants as column
use Rattle.raid_label.specs.declared.label.Label.{Label}
use Rattle.top_open.specs.Opening.{Opened}
use Rattle.top_looks.specs.declared.doubt.Doubt.{Doubt}

abbrev pub is_dead : Column → Bool
is_dead column.Dead = true
is_dead (column.Live device) = false
is_dead (column.Filling device done) = false
is_dead column.Spread = false

-- by the newest label, how many columns are dead, and how many of them by that label alone
abbrev pub doubt_by : Option Label → (dead named_dead : ℕ) → Option Doubt
doubt_by None dead named_dead = None
doubt_by (Some newest) dead named_dead =
    if newest.clean == 1 || dead == 0 then None else Some (record { named = nat_lt named_dead dead })

-- the array wasn't closed in order, and lacks a column
abbrev pub doubt_in : Opened → Option Doubt
doubt_in o = doubt_by o.newest (count_by is_dead o.columns) (count_by is_dead o.seats)
