-- A list of components: the names of a text, or its first line that is refused and why.
use Rattle.std.specs.Prelude.{◌≡◌, ℕ, ◌<◌, ◌&&◌, not, List, [], ◌∷◌, ◌++◌, Some, Result, Ok, Err, length, nat_le, nat_lt, slice_get}
use Rattle.std.specs.List.{list_any}
use Rattle.std.specs.Str.{bytes_eq}
use Rattle.raid_text.specs.Text.{Text, Numbered}
use Rattle.text_steps.specs.Steps.{◌>>=◌, at_end, at_line, next_word, only_if, words_in}
use Rattle.text_steps.specs.declared.at.At.{At}
use Rattle.top_scan.specs.declared.list.ListFault.{ListFault}
use Rattle.top_scan.specs.declared.list.ListFault.TheVariants as fault

-- the name that is alone on a line, behind these: code 7 where it stands already or has more than
-- 255 bytes, code 1 where another word stands behind it, code 13 where 1,024 names stand before it
unfoldable pub name_of : List Text → List Text → Result Text ℕ
name_of names words = do
  word ← next_word words
  new ← only_if (nat_le (length word.0) 255 && not (list_any (λ n. bytes_eq n word.0) names)) 7
  end ← at_end word.1
  room ← only_if (nat_lt (length names) 1024) 13
  Ok word.0

-- these names, and behind them those of the lines; code 1 where a byte stands on one that no word
-- has
unfoldable pub names_behind : List Text → List Numbered → Result (List Text) At
names_behind names [] = Ok names
names_behind names (line ∷ lines) = do
  name ← at_line line.at (words_in line >>= λ words. name_of names words)
  names_behind (names ++ name ∷ []) lines

-- no two names are the same
abbrev pub AreApart : List Text → Type 0
AreApart names =
    (i j : ℕ) (n : Text) → i < j → slice_get names i ≡ Some n → slice_get names j ≡ Some n → ⊥

-- what the reader answers: the names, seen by a view, or the refusal; want of memory is free
abbrev pub GivesFault : {A : Type 0} → ListFault → Result A At → Type 0
GivesFault (fault.At n code) read = read ≡ Err (record { line = n; code = code })
GivesFault fault.Memory read = Unit {0}

abbrev pub GivesList : {X A : Type 0} → (X → A) → Result X ListFault → Result A At → Type 0
GivesList view (Ok x) read = read ≡ Ok (view x)
GivesList view (Err f) read = GivesFault f read
