-- What the functions that read requests to one simulated disk find: what each line says, or the code
-- by which it is refused; Texts says it in one.
use Rattle.std.specs.Prelude.{ℕ, ◌+◌, ◌&&◌, not, List, [], ◌∷◌, Result, Ok, Err, if◌then◌else◌, ok_or, nat_eq, nat_le, nat_lt, codes}
use Rattle.std.specs.Str.{bytes_eq}
use Rattle.raid_text.specs.Pattern.{pattern_of}
use Rattle.raid_text.specs.Text.{Text, Numbered}
use Rattle.text_steps.specs.Steps.{◌>>=◌, after_word, at_end, at_line, next_line, next_number, next_word, only_if, words_in, Rest}
use Rattle.text_steps.specs.declared.at.At.{At}
use Rattle.top_sim.specs.Asked.{Asked, Reads, Transfer, Writes, read_sectors}

-- ---- the first line

-- disk SECTORS: code 2 where these aren't 1 to 262,144
unfoldable pub disk_of : List Text → Result ℕ ℕ
disk_of words = do
  rest ← after_word (codes "disk") 1 words
  sectors ← next_number rest
  some ← only_if (not (nat_eq sectors.0 0) && nat_le sectors.0 262144) 2
  end ← at_end sectors.1
  Ok sectors.0

-- ---- the words of a request

-- TICK, and the words behind it: code 15 where it is below that of the line before
unfoldable pub next_tick : ℕ → List Text → Result (ℕ × List Text) ℕ
next_tick low words = do
  tick ← next_number words
  order ← only_if (nat_le low tick.0) 15
  Ok tick

-- FIRST and COUNT, and the words behind them: code 2 where COUNT is 0, code 14 where the span goes
-- past the disk
unfoldable pub next_span : ℕ → List Text → Result (ℕ × ℕ × List Text) ℕ
next_span sectors words = do
  first ← next_number words
  count ← next_number first.1
  some ← only_if (not (nat_eq count.0 0)) 2
  within ← only_if (nat_le (first.0 + count.0) sectors) 14
  Ok (first.0, count.0, count.1)

-- the bytes of the pattern that comes next, and the words behind it: code 17 where the word is none
unfoldable pub next_pattern : List Text → Result (List ℕ × List Text) ℕ
next_pattern words = do
  word ← next_word words
  bytes ← ok_or (pattern_of word.0) 17
  Ok (bytes, word.1)

-- what stands behind `write`, FIRST COUNT PATTERN, or behind `read`, FIRST COUNT
unfoldable pub op_of : ℕ → Text → List Text → Result Transfer ℕ
op_of sectors kind words =
    if bytes_eq kind (codes "write") then (do
      span ← next_span sectors words
      bytes ← next_pattern span.2
      end ← at_end bytes.1
      Ok (Writes span.0 span.1 bytes.0))
    else (if bytes_eq kind (codes "read") then (do
      span ← next_span sectors words
      end ← at_end span.2
      Ok (Reads span.0 span.1))
    else Err 1)

-- ---- one request

-- at TICK, and a write or a read behind it
unfoldable pub request_of : ℕ → ℕ → List Text → Result Asked ℕ
request_of sectors low words = do
  rest ← after_word (codes "at") 1 words
  tick ← next_tick low rest
  kind ← next_word tick.1
  transfer ← op_of sectors kind.0 kind.1
  Ok (record { tick = tick.0; transfer = transfer })

-- the request of a line, behind n requests whose reads have r sectors: code 16 where they are too
-- many with it
unfoldable pub next_of : ℕ → ℕ → ℕ → ℕ → Numbered → Result Asked ℕ
next_of sectors low n r line = do
  asked ← words_in line >>= λ words. request_of sectors low words
  room ← only_if (nat_lt n 4096 && nat_le (r + read_sectors asked.transfer) 262144) 16
  Ok asked

-- ---- all lines

-- the requests of these lines, behind n requests whose reads have r sectors, and the last of which
-- arrives at the tick `low`
unfoldable pub requests_behind : ℕ → ℕ → ℕ → ℕ → List Numbered → Result (List Asked) At
requests_behind sectors low n r [] = Ok []
requests_behind sectors low n r (line ∷ lines) = do
  asked ← at_line line.at (next_of sectors low n r line)
  more ← requests_behind sectors asked.tick (n + 1) (r + read_sectors asked.transfer) lines
  Ok (asked ∷ more)

-- the sectors of the disk, which the next line says, and the lines behind that; code 1 where there
-- is none
unfoldable pub disk_line : Rest → Result (ℕ × List Numbered) At
disk_line rest = do
  first ← next_line 1 rest
  sectors ← at_line first.at (disk_of first.words)
  Ok (sectors, first.rest.lines)
