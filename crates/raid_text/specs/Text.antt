-- Lines, words and numbers of a text.
use Rattle.std.specs.Prelude.{ℕ, ◌+◌, ◌^◌, ◌==◌, ◌&&◌, ◌||◌, Bool, not, List, [], ◌∷◌, Option, Some, None, if◌then◌else◌, nat_lt, nat_le, length, filter}
use Rattle.std.specs.List.{before_first, slice_split, list_all, list_any}
use Rattle.std.specs.Str.Lines.{strip_carriage_return}
use Rattle.std.specs.Str.{all_ascii_digits}
use Rattle.std.specs.Str.Parse.{digits_value}

-- a text is its bytes
abbrev pub Text : Type 0
Text = List ℕ

-- the parts between bytes 10, of which an empty last one is no line
abbrev pub lines_of_parts : List Text → List Text
lines_of_parts [] = []
lines_of_parts (part ∷ []) = if length part == 0 then [] else part ∷ []
lines_of_parts (part ∷ next ∷ more) = part ∷ lines_of_parts (next ∷ more)

-- the lines of a text, each of which ends with byte 10 or with the text
unfoldable pub raw_lines : Text → List Text
raw_lines text = lines_of_parts (slice_split (λ b. b == 10) text)

-- what stands before the comment; a byte 13 right before the line's end isn't part of the line
unfoldable pub body_of : Text → Text
body_of line = before_first (λ b. b == 35) (strip_carriage_return line)

-- a space or a tab, which separate words
abbrev pub is_blank : ℕ → Bool
is_blank b = b == 32 || b == 9

-- a byte that may stand in a word: 33 to 126 without `#`
abbrev pub is_word_byte : ℕ → Bool
is_word_byte b = (nat_le 33 b && nat_le b 126) && not (b == 35)

-- one byte of a word or more
abbrev pub is_word : Text → Bool
is_word w = nat_lt 0 (length w) && list_all is_word_byte w

-- the words of what stands before a comment: the parts between blanks that aren't empty
unfoldable pub words_of : Text → List Text
words_of body = filter (λ w. nat_lt 0 (length w)) (slice_split is_blank body)

-- each byte separates words or may stand in one: 33 to 126 without `#`
unfoldable pub is_sound : Text → Bool
is_sound body = list_all (λ b. is_blank b || ((nat_le 33 b && nat_le b 126) && not (b == 35))) body

-- a byte that doesn't separate words
unfoldable pub has_word : Text → Bool
has_word body = list_any (λ b. not (is_blank b)) body

-- a line with a word: its number, and what stands before its comment
pub record Numbered : Type 0 where
  pub at : ℕ
  pub body : Text

-- those of the lines that have a word, where the first line has this number
unfoldable pub numbered : ℕ → List Text → List Numbered
numbered n [] = []
numbered n (line ∷ lines) =
    if has_word (body_of line) then record { at = n; body = body_of line } ∷ numbered (n + 1) lines
    else numbered (n + 1) lines

-- the lines of a text that have a word, with their numbers from 1
abbrev pub lines_in : Text → List Numbered
lines_in text = numbered 1 (raw_lines text)

-- the words of a line, where no other byte stands on it
unfoldable pub sound_words : Numbered → Option (List Text)
sound_words line = if is_sound line.body then Some (words_of line.body) else None

-- the number that 1 to 10 decimal digits are, at most 4,294,967,295
unfoldable pub number_of : Text → Option ℕ
number_of w = if (nat_lt 0 (length w) && nat_le (length w) 10) && (all_ascii_digits w && nat_lt (digits_value 10 w) (2 ^ 32)) then Some (digits_value 10 w) else None
