-- Level 5, left-symmetric.
use Rattle.std.specs.Prelude.{◌+◌, ◌-◌, ◌*◌, ◌%◌, ℕ, if◌then◌else◌, nat_lt}
use Rattle.lay_core.specs.Layout.{Shape}
use Rattle.lay_plain.specs.Plain.{by_rows}

-- level 5 over n columns with units of u sectors: each stripe is a row with one check unit, which is the last and goes one column to the left with each stripe; the data units are dealt out to the columns in turn
abbrev pub left_symmetric : ℕ → ℕ → ℕ → Shape
left_symmetric n u rows =
    by_rows n 1 u rows (λ s i. if nat_lt i (n - 1) then (s * (n - 1) + i) % n else n - 1 - s % n)
