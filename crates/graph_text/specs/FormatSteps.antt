-- What a line of a graph file has next, read word by word from left to right, or the code by which it is refused there.
use Rattle.std.specs.Prelude.{ℕ, List, Result, Ok}
use Rattle.raid_text.specs.Text.{Text}
use Rattle.text_steps.specs.Steps.{◌>>=◌, next_number}

-- the two numbers that come next, and the words behind them
unfoldable pub next_pair : List Text → Result (ℕ × ℕ × List Text) ℕ
next_pair words = do
  first ← next_number words
  second ← next_number first.1
  Ok (first.0, second.0, second.1)
