-- What the functions of this crate find piece by piece.
use Rattle.std.specs.Prelude.{ℕ, ◌||◌, Bool}
use Rattle.raid_text.specs.Text.{is_blank, is_word_byte}

-- a byte that may stand outside a comment
abbrev pub may_stand : ℕ → Bool
may_stand b = is_blank b || is_word_byte b
