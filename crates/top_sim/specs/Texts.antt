-- Requests to one simulated disk: what a text asks for, or the first line that is refused and the
-- code of its refusal.
use Rattle.std.specs.Prelude.{ℕ, ◌+◌, ◌&&◌, List, [], ◌∷◌, Result, Ok, Err, if◌then◌else◌, ok_or, nat_le, nat_lt, codes}
use Rattle.std.specs.Str.{bytes_eq}
use Rattle.raid_text.specs.Pattern.{pattern_of}
use Rattle.raid_text.specs.Text.{Text, Numbered}
use Rattle.text_steps.specs.Steps.{◌>>=◌, after_word, at_end, at_line, line_by, next_number, next_word, only_if, whole, words_in}
use Rattle.text_steps.specs.declared.at.At.{At}
use Rattle.top_sim.specs.Asked.{Asked, Reads, Workload, Writes, read_sectors}
use Rattle.top_sim.specs.Format.{disk_of, next_span}

-- What a line asks for, behind n requests whose reads have r sectors, and the last of which arrives at
-- the tick `low`: `at TICK`, and behind it `write` FIRST COUNT PATTERN, or `read` FIRST COUNT. Code 15
-- where the tick is below that one, code 17 where a word is no pattern, and code 16 where the requests
-- are too many with it.
unfoldable pub request_by : ℕ → ℕ → ℕ → ℕ → List Text → Result Asked ℕ
request_by sectors low n r words = do
  rest ← after_word (codes "at") 1 words
  tick ← next_number rest
  order ← only_if (nat_le low tick.0) 15
  kind ← next_word tick.1
  transfer ← if bytes_eq kind.0 (codes "write") then (do
    span ← next_span sectors kind.1
    word ← next_word span.2
    bytes ← ok_or (pattern_of word.0) 17
    end ← at_end word.1
    Ok (Writes span.0 span.1 bytes))
      else (if bytes_eq kind.0 (codes "read") then (do
        span ← next_span sectors kind.1
        end ← at_end span.2
        Ok (Reads span.0 span.1))
      else Err 1)
  room ← only_if (nat_lt n 4096 && nat_le (r + read_sectors transfer) 262144) 16
  Ok (record { tick = tick.0; transfer = transfer })

-- the requests of these lines, behind such requests
unfoldable pub requests_by : ℕ → ℕ → ℕ → ℕ → List Numbered → Result (List Asked) At
requests_by sectors low n r [] = Ok []
requests_by sectors low n r (line ∷ lines) = do
  asked ← at_line line.at (words_in line >>= request_by sectors low n r)
  more ← requests_by sectors asked.tick (n + 1) (r + read_sectors asked.transfer) lines
  Ok (asked ∷ more)

-- what a text asks for: its first line says the disk
unfoldable pub workload_of : Text → Result Workload At
workload_of text = do
  disk ← line_by 1 disk_of (whole text)
  asked ← requests_by disk.0 0 0 0 disk.1.lines
  Ok (record { sectors = disk.0; asked = asked })
