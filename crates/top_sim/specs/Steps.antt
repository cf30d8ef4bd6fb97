-- What the functions that read a request, or print a reply, find piece by piece; Format and
-- Lines say it in one.
use Rattle.std.specs.Prelude.{ℕ, List, Result, Ok, [], ◌∷◌, length, codes, decimal, flat_map, ◌++◌}
use Rattle.raid_text.specs.Text.{Text, Numbered}
use Rattle.text_steps.specs.Steps.{◌>>=◌, at_end, words_in, whole}
use Rattle.top_sim.specs.Asked.{Asked, Reads, Transfer, Writes, Workload, Other}
use Rattle.top_sim.specs.Format.{next_span, next_pattern, request_of, disk_line, requests_behind}
use Rattle.std.specs.List.{range_with_len}
use Rattle.put_line.specs.Line.{line}
use Rattle.sim_queue.specs.declared.request.Request.{Request}
use Rattle.top_sim.specs.Lines.{number_text, data_text}
use Rattle.text_steps.specs.declared.at.At.{At}
use Rattle.blk_plain.specs.declared.op.Op.{Op}
use Rattle.blk_plain.specs.declared.op.Op.TheVariants as op
use Rattle.raid_text.specs.Pattern.{pattern_bytes}
use Rattle.sim_queue.specs.declared.request.Served.{Served}

-- FIRST COUNT PATTERN
unfoldable pub write_of : ℕ → List Text → Result Transfer ℕ
write_of sectors words = do
  span ← next_span sectors words
  bytes ← next_pattern span.2
  end ← at_end bytes.1
  Ok (Writes span.0 span.1 bytes.0)

-- FIRST COUNT
unfoldable pub read_of : ℕ → List Text → Result Transfer ℕ
read_of sectors words = do
  span ← next_span sectors words
  end ← at_end span.2
  Ok (Reads span.0 span.1)

-- the request of a line
unfoldable pub line_request : ℕ → ℕ → Numbered → Result Asked ℕ
line_request sectors low line = words_in line >>= λ words. request_of sectors low words

-- reply I, and a word
unfoldable pub reply_line : ℕ → List ℕ → List ℕ
reply_line number word =
    line (codes "reply " ∷ decimal number ∷ codes " " ∷ word ∷ codes "\n" ∷ [])

-- of all, by number
abbrev pub replies_text : List Request → List (List (List ℕ)) → List ℕ
replies_text requests replies =
    flat_map (number_text requests replies) (range_with_len 0 (length requests))

-- what a text asks for, line after line
unfoldable pub workload_read : Text → Result Workload At
workload_read text = do
  disk ← disk_line (whole text)
  asked ← requests_behind disk.0 0 0 0 disk.1
  Ok (record { sectors = disk.0; asked = asked })

-- what an operation asks for
abbrev pub op_seen : Op → Transfer
op_seen (op.Write span pattern) = Writes span.first span.count (pattern_bytes pattern)
op_seen (op.Read span) = Reads span.first span.count
op_seen (op.Writes patches) = Other
op_seen (op.Rebuild stripe) = Other
op_seen (op.Sync stripe) = Other

-- served I START END
unfoldable pub served_line : Served → List ℕ
served_line s = line
    (codes "served " ∷ decimal s.request ∷ codes " " ∷ decimal s.start
    ∷ codes " " ∷ decimal s.end ∷ codes "\n" ∷ [])

-- the word of a reply: `data` of a read, else `done`
abbrev pub reply_word : Op → List ℕ
reply_word (op.Read span) = codes "data"
reply_word (op.Write span pattern) = codes "done"
reply_word (op.Writes patches) = codes "done"
reply_word (op.Rebuild stripe) = codes "done"
reply_word (op.Sync stripe) = codes "done"

-- the lines of an operation
abbrev pub reply_text : ℕ → Op → List (List ℕ) → List ℕ
reply_text number op sectors =
    line (codes "reply " ∷ decimal number ∷ codes " " ∷ reply_word op ∷ codes "\n" ∷ [])
    ++ data_text op sectors

-- what a request asks for
abbrev pub seen : Request → Asked
seen r = record {
  tick = r.tick;
  transfer = elim r.op [
    | op.Write span pattern ↦ Writes span.first span.count (pattern_bytes pattern)
    | op.Read span ↦ Reads span.first span.count
    | _ ↦ Other
  ];
}
