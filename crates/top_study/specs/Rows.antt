-- Over how many rows a layout is told.
use Rattle.std.specs.Prelude.{ℕ, ◌*◌, ◌/◌, ◌%◌, ◌==◌, ◌&&◌, Bool, Option, Some, None, if◌then◌else◌, nat_le}
use Rattle.raid_conf.specs.Layouts.{table_rows, table_stripes}
use Rattle.raid_conf.specs.declared.conf.Conf.{Conf}

-- a layout has so many rows: those of whole tables, at least one, and of at most 1,048,576 stripes
unfoldable pub are_rows : Conf → ℕ → Bool
are_rows conf rows =
    (nat_le (table_rows conf) rows && rows % table_rows conf == 0)
    && nat_le (rows / table_rows conf * table_stripes conf) 1048576

-- after how many rows it comes again: those of a table, at level 5 those of a turn of the check units
unfoldable pub turn_rows : Conf → ℕ
turn_rows conf = if conf.level == 53 then conf.columns else table_rows conf

-- the rows that are asked for, or else those
abbrev pub rows_for : Conf → Option ℕ → ℕ
rows_for conf None = turn_rows conf
rows_for conf (Some rows) = rows
