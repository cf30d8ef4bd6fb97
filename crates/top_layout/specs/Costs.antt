-- What an operation costs under a layout, in units of one stripe.
use Rattle.std.specs.Prelude.{ℕ, ◌+◌, ◌-◌, ◌==◌, if◌then◌else◌, nat_le}
use Rattle.lay_core.specs.Layout.{Shape, data_units}

-- How many units a write of m whole data units of a stripe reads where none is missing. The small
-- write reads these and the check unit, the large write all other data units; the one that reads less
-- is taken, and the small one where both read as much. Without a check unit nothing is read.
abbrev pub write_reads : Shape → ℕ → ℕ
write_reads y m =
    if y.checks == 0 then 0
    else (if nat_le (m + 1) (data_units y - m) then m + 1 else data_units y - m)

-- how many it writes: these, and the check unit
abbrev pub write_writes : Shape → ℕ → ℕ
write_writes y m = m + y.checks
