-- What the functions of this crate find piece by piece.
use Rattle.std.specs.Prelude.{ℕ, ◌+◌, List, [], ◌∷◌, Option, Some, None, Result, Ok, Err}
use Rattle.raid_text.specs.Text.{Numbered}
use Rattle.text_steps.specs.declared.at.At.{At}
use Rattle.text_steps.specs.Steps.{◌>>=◌, at_line, words_in, Next}

-- the next line, where one is left
abbrev pub line_among : ℕ → List Numbered → Result (Option Next) At
line_among count [] = Ok None
line_among count (line ∷ lines) =
    at_line line.at (words_in line) >>= λ words.
    Ok (Some (record {
      at = line.at;
      words = words;
      rest = record { lines = lines; count = count };
    }))

-- the line that there is, or this code at the line behind the last of so many
abbrev pub or_missing : ℕ → ℕ → Option Next → Result Next At
or_missing count code None = Err (record { line = count + 1; code = code })
or_missing count code (Some line) = Ok line
