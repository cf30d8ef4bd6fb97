-- What an opening makes of the lines of the columns.
use Rattle.std.specs.Prelude.{◌≡◌, ◌⊎◌, ℕ, ◌+◌, ◌<◌, ◌≤◌}

-- of n columns and so many spares, device d is the disk of column c, or a spare
abbrev pub IsOwnOrSpare : ℕ → ℕ → ℕ → ℕ → Type 0
IsOwnOrSpare n spares c d = (d ≡ c) ⊎ ((n ≤ d) × (d < n + spares))
