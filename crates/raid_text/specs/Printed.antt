-- Texts as they are printed, and that what is printed is read again.
use Rattle.std.specs.Prelude.{◌≡◌, ℕ, ◌<◌, ◌^◌, IsTrue, List, [], ◌∷◌, ◌++◌, length, map, Some, All, decimal, ◌==◌, ◌||◌, Bool}
use Rattle.std.specs.List.{join_with_byte, list_all}
use Rattle.hex.specs.Hex.{encode_lower, IsBytes}
use Rattle.raid_text.specs.Text.{Text, is_word, lines_in, number_of, sound_words}
use Rattle.raid_text.specs.Pattern.{pattern_of}

-- each line's words with one space between them, and byte 10 at its end
unfoldable pub text_of : List (List Text) → Text
text_of [] = []
text_of (words ∷ lines) = join_with_byte 32 words ++ 10 ∷ text_of lines

-- a line that has words
abbrev pub IsLine : List Text → Type 0
IsLine words = (0 < length words) × IsTrue (list_all is_word words)

-- printed lines are read as their words
abbrev pub LinesAreReadAgain : Type 0
LinesAreReadAgain = (lines : List (List Text)) → All IsLine lines → map sound_words (lines_in (text_of lines)) ≡ map Some lines

-- a number printed in decimal digits is read as itself
abbrev pub NumbersAreReadAgain : Type 0
NumbersAreReadAgain = (n : ℕ) → n < 2 ^ 32 → number_of (decimal n) ≡ Some n

-- two digits for each of 1, 2, 4, 8, 16 or 32 bytes
abbrev pub is_digit_count : ℕ → Bool
is_digit_count n = n == 2 || (n == 4 || (n == 8 || (n == 16 || (n == 32 || n == 64))))

-- the 1, 2, 4, 8, 16 or 32 bytes of a pattern printed in hexadecimal digits are read as themselves
abbrev pub PatternsAreReadAgain : Type 0
PatternsAreReadAgain = (bytes : List ℕ) → IsBytes bytes → IsTrue (is_digit_count (length (encode_lower bytes))) → pattern_of (encode_lower bytes) ≡ Some bytes
