-- How a graph's text is printed: line by line, and on a line word by word.
use Rattle.std.specs.Prelude.{List, [], ◌∷◌, ◌++◌, map, flat_map}
use Rattle.std.specs.List.{join_with_byte}
use Rattle.raid_text.specs.Text.{Text}
use Rattle.graph_text.specs.FormatForm.{Place, printed}

-- the words that are printed at these places, a space before each
abbrev pub spaced : List Place → Text
spaced places = flat_map (λ place. 32 ∷ printed place) places

-- the line that is printed of these places
unfoldable pub line_text : List Place → Text
line_text places = join_with_byte 32 (map printed places) ++ 10 ∷ []

-- the lines that are printed, one behind the other
abbrev pub lines_text : List (List Place) → Text
lines_text lines = flat_map line_text lines
