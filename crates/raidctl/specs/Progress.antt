-- The line that shows how far a long call is.
use Rattle.std.specs.Prelude.{ℕ, ◌*◌, ◌-◌, ◌/◌, ◌^◌, ◌==◌, ◌&&◌, Bool, if◌then◌else◌, min, nat_le}

-- none in the first second, nor in the first fifth of one of a new count, and then a fifth of a second or more behind the
-- one before; all in milliseconds
unfoldable pub is_time : (passed since drawn : ℕ) → Bool
is_time passed since drawn = nat_le 1000 passed && nat_le 200 since && nat_le 200 (passed - drawn)

-- how many seconds are left, where so many milliseconds passed for what is done, and the others take as long each
unfoldable pub seconds_left : (since done all : ℕ) → ℕ
seconds_left since done all =
    if done == 0 then 0 else min (since * (all - done)) (2 ^ 64 - 1) / done / 1000
