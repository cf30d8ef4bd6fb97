-- What a text has next, read line by line and on a line word by word from left to right, or where
-- and by which code it is refused there.
use Rattle.std.specs.Prelude.{ℕ, zero, suc, ◌+◌, Bool, List, [], ◌∷◌, length, Option, Some, None, Result, Ok, Err, if◌then◌else◌, nat_eq, ok_or}
use Rattle.std.specs.Str.{bytes_eq}
use Rattle.raid_text.specs.declared.readers.Lines.{Lines}
use Rattle.raid_text.specs.Seen.{left, line_count}
use Rattle.raid_text.specs.Text.{Text, Numbered, is_sound, lines_in, number_of, raw_lines, words_of}
use Rattle.text_steps.specs.declared.at.At.{At}

-- the second step, where the first gave a value
infixl 10 ◌>>=◌
abbrev pub ◌>>=◌ : {A B E : Type 0} → Result A E → (A → Result B E) → Result B E
(Ok x) >>= f = f x
(Err e) >>= f = Err e

-- nothing where the test passes, or this code
abbrev pub only_if : Bool → ℕ → Result (Unit {0}) ℕ
only_if test code = if test then Ok tt else Err code

-- ---- the words of a line

-- the next word, and the words behind it; code 1 where there is none
unfoldable pub next_word : List Text → Result (Text × List Text) ℕ
next_word [] = Err 1
next_word (word ∷ words) = Ok (word, words)

-- the words behind this one, which comes next; code 1 where none comes, and this code where another
-- does
unfoldable pub after_word : Text → ℕ → List Text → Result (List Text) ℕ
after_word text code [] = Err 1
after_word text code (word ∷ words) = if bytes_eq word text then Ok words else Err code

-- the number that a word is; code 2 where it is none
unfoldable pub number_in : Text → Result ℕ ℕ
number_in word = ok_or (number_of word) 2

-- the number that comes next, and the words behind it; code 1 where no word comes, 2 where it is
-- no number
unfoldable pub next_number : List Text → Result (ℕ × List Text) ℕ
next_number [] = Err 1
next_number (word ∷ words) = number_in word >>= λ n. Ok (n, words)

-- the words behind this number, which comes next; this code where another one does
unfoldable pub after_number : ℕ → ℕ → List Text → Result (List Text) ℕ
after_number wanted code words =
    next_number words >>= λ n. if nat_eq n.0 wanted then Ok n.1 else Err code

-- no word comes; code 1 where one does
unfoldable pub at_end : List Text → Result (Unit {0}) ℕ
at_end [] = Ok tt
at_end (word ∷ words) = Err 1

-- the numbers up to the line's end; code 2 where a word is none
unfoldable pub numbers_of : List Text → Result (List ℕ) ℕ
numbers_of [] = Ok []
numbers_of (word ∷ words) = do
  n ← number_in word
  more ← numbers_of words
  Ok (n ∷ more)

-- ---- the lines of a text

-- the value, or the refusal of this line
abbrev pub at_line : {A : Type 0} → ℕ → Result A ℕ → Result A At
at_line n (Ok x) = Ok x
at_line n (Err code) = Err (record { line = n; code = code })

-- the lines with a word that are still to come, and how many lines the text has in all
pub record Rest : Type 0 where
  pub lines : List Numbered
  pub count : ℕ

-- before the first line
abbrev pub whole : Text → Rest
whole text = record { lines = lines_in text; count = length (raw_lines text) }

-- what a reader of lines has still to give
unfoldable pub rest_of : Lines → Rest
rest_of lines = record { lines = left lines; count = line_count lines }

-- the words of a line; code 1 where a byte outside its comment neither separates words nor may
-- stand
-- in one
unfoldable pub words_in : Numbered → Result (List Text) ℕ
words_in line = if is_sound line.body then Ok (words_of line.body) else Err 1

-- a line's number and words, and the lines behind it
pub record Next : Type 0 where
  pub at : ℕ
  pub words : List Text
  pub rest : Rest

-- the next line, where one is left
unfoldable pub line_if_any : Rest → Result (Option Next) At
line_if_any rest = elim rest.lines [
  | [] ↦ Ok None
  | line ∷ lines ↦ at_line line.at (words_in line) >>= λ words.
      Ok (Some (record {
        at = line.at;
        words = words;
        rest = record { lines = lines; count = rest.count };
      }))
]

-- the next line; this code where none is left, at the line behind the last
unfoldable pub next_line : ℕ → Rest → Result Next At
next_line code rest = line_if_any rest
    >>= elim [ None ↦ Err (record { line = rest.count + 1; code = code }) | Some line ↦ Ok line ]

-- what is made of the words of the next line, and the lines behind it; this code where none is left
unfoldable pub line_by : {A : Type 0} → ℕ → (List Text → Result A ℕ) → Rest → Result (A × Rest) At
line_by code f rest = do
  line ← next_line code rest
  x ← at_line line.at (f line.words)
  Ok (x, line.rest)

-- a step that is taken so many times, each time with what the one before gave
unfoldable pub repeated : {A : Type 0} → ℕ → (A → Rest → Result (A × Rest) At) → A → Rest
    → Result (A × Rest) At
repeated zero step x rest = Ok (x, rest)
repeated (suc n) step x rest = step x rest >>= λ more. repeated n step more.0 more.1
