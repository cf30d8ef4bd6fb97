-- A line on standard error.
use Rattle.std.specs.Prelude.{ℕ, ◌==◌, ◌||◌, List, ◌++◌, codes, decimal, flat_map, map, if◌then◌else◌, nat_lt}
use Rattle.top_hints.specs.declared.piece.Piece.{Piece}
use Rattle.top_hints.specs.declared.piece.Piece.TheVariants as piece

-- a byte by which a terminal would do something shows as a question mark
abbrev pub shown_byte : ℕ → ℕ
shown_byte b = if nat_lt b 32 || b == 127 then 63 else b

-- a name or a word as it is shown: no byte of it ends the line
abbrev pub shown : List ℕ → List ℕ
shown = map shown_byte

-- the program's name, these words, and the line's end
unfoldable pub hint_line : List (List ℕ) → List ℕ
hint_line words = codes "raidctl: " ++ flat_map (λ word. word) words ++ codes "\n"

abbrev pub piece_text : Piece → List ℕ
piece_text (piece.Words words) = words.now
piece_text (piece.Number number) = decimal number
piece_text (piece.Shown name) = shown name.now
