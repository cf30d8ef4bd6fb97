-- The levels of layouts, each by the ASCII number of its letter.
use Rattle.std.specs.Prelude.{ℕ, ◌%◌, ◌==◌, ◌&&◌, ◌||◌, Bool, not, nat_le}

-- `0` stripes without a check unit; `1` mirrors pairs of columns; `4` keeps the check units on the last column; `5` rotates them, left-symmetric; `C` is chained declustering; `T` is parity declustering by a block design, and `D` the same with distributed spare places
unfoldable pub is_level : ℕ → Bool
is_level b = (b == 48 || b == 49) || ((b == 52 || b == 53) || (b == 67 || (b == 84 || b == 68)))

-- levels T and D stand on a block design
unfoldable pub has_design : ℕ → Bool
has_design level = level == 84 || level == 68

-- whether a level may have so many columns: at level 0 one or more, at level 1 an even number, at the others two or more
unfoldable pub allows : ℕ → ℕ → Bool
allows level columns = (level == 48 || nat_le 2 columns) && (not (level == 49) || columns % 2 == 0)
