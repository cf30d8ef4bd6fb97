-- Scripts: what a text asks for, or the first line that is refused and the code of its refusal.
use Rattle.std.specs.Prelude.{ℕ, ◌+◌, ◌&&◌, List, [], ◌∷◌, length, map, filter, flat_map, option_to_list, Option, Some, None, Result, Ok, Err, if◌then◌else◌, nat_eq, nat_le, nat_lt, codes}
use Rattle.std.specs.List.{range_with_len}
use Rattle.std.specs.Str.{bytes_eq}
use Rattle.raid_text.specs.Text.{Text, Numbered, lines_in}
use Rattle.text_steps.specs.Steps.{◌>>=◌, at_end, at_line, next_number, next_word, only_if, words_in}
use Rattle.text_steps.specs.declared.at.At.{At}
use Rattle.graph_text.specs.Format.{Named}
use Rattle.raid_script.specs.Asked.{Asked, Writes, WritesAll, Reads, Syncs, Fails, Request, Scripted, read_sectors}
use Rattle.raid_script.specs.Format.{are_apart, next_graph, next_patch, next_pattern, next_span, patches_of}

-- ---- one line

-- What stands behind `write`, FIRST COUNT PATTERN; behind `writes`, the same one to eight times,
-- and code 9 where two of the spans share a block; or behind `read`, FIRST COUNT.
unfoldable pub run_by : Option ℕ → Text → List Text → Result Asked ℕ
run_by graph kind words =
    if bytes_eq kind (codes "write") then (do
      span ← next_span words
      bytes ← next_pattern span.2
      end ← at_end bytes.1
      Ok (Writes span.0 span.1 bytes.0 graph))
    else (if bytes_eq kind (codes "writes") then (do
      first ← next_patch words
      more ← patches_of 7 first.1
      apart ← only_if (are_apart (first.0 ∷ more)) 9
      Ok (WritesAll (first.0 ∷ more) graph))
    else (if bytes_eq kind (codes "read") then (do
      span ← next_span words
      end ← at_end span.2
      Ok (Reads span.0 span.1 graph))
    else Err 1))

-- What stands behind the word that says what kind of item it is: behind `sync` STRIPE; behind `fail`
-- COLUMN, and code 5 where the array hasn't so many; behind `use` the name of a graph and a run by it.
unfoldable pub item_by : List Named → ℕ → Text → List Text → Result Asked ℕ
item_by book columns kind words =
    if bytes_eq kind (codes "sync") then (do
      stripe ← next_number words
      end ← at_end stripe.1
      Ok (Syncs stripe.0))
    else (if bytes_eq kind (codes "fail") then (do
      column ← next_number words
      known ← only_if (nat_lt column.0 columns) 5
      end ← at_end column.1
      Ok (Fails column.0))
    else (if bytes_eq kind (codes "use") then (do
      graph ← next_graph book words
      run ← next_word graph.1
      run_by (Some graph.0) run.0 run.1)
    else run_by None kind words))

-- NAME FIRST COUNT PATTERN, twice: a write of both by the two graphs joined, which has the number
-- behind those of the book and of the j that are joined before; code 9 where the spans share a block,
-- and code 13 where 64 are joined before
unfoldable pub join_by : List Named → ℕ → ℕ → ℕ → List Text → Result Request ℕ
join_by book j line client words = do
  first ← next_graph book words
  one ← next_patch first.1
  second ← next_graph book one.1
  other ← next_patch second.1
  end ← at_end other.1
  apart ← only_if (are_apart (one.0 ∷ other.0 ∷ [])) 9
  few ← only_if (nat_lt j 64) 13
  Ok (record {
    client = client;
    asked = WritesAll (one.0 ∷ other.0 ∷ []) (Some (length book + j));
    joined = Some (record { line = line; first = first.0; second = second.0 });
  })

-- The item of a line, its client first, behind n items whose reads have r sectors, and j join lines:
-- code 3 where the client isn't below 16, and code 7 where the items are too many with it.
unfoldable pub request_by : List Named → ℕ → ℕ → ℕ → ℕ → Numbered → Result Request ℕ
request_by book columns n r j line = do
  words ← words_in line
  client ← next_number words
  known ← only_if (nat_lt client.0 16) 3
  kind ← next_word client.1
  request ← if bytes_eq kind.0 (codes "join") then join_by book j line.at client.0 kind.1
      else (item_by book columns kind.0 kind.1 >>= λ asked.
      Ok (record { client = client.0; asked = asked; joined = None }))
  room ← only_if (nat_lt n 65536 && nat_le (r + read_sectors request.asked) 262144) 7
  Ok request

-- ---- all lines

-- the items of these lines, behind n items whose reads have r sectors, and j join lines
unfoldable pub requests_by : List Named → ℕ → ℕ → ℕ → ℕ → List Numbered → Result (List Request) At
requests_by book columns n r j [] = Ok []
requests_by book columns n r j (line ∷ lines) = do
  request ← at_line line.at (request_by book columns n r j line)
  more ← requests_by book columns (n + 1) (r + read_sectors request.asked) (j + length (option_to_list request.joined)) lines
  Ok (request ∷ more)

-- what a text asks for, by client and in order, and its join lines; the graphs of the file are
-- numbered as the book has them, and there are none where no file was given
unfoldable pub script_of : List Named → ℕ → Text → Result Scripted At
script_of book columns text = do
  requests ← requests_by book columns 0 0 0 (lines_in text)
  Ok (record {
    clients = map (λ client. map (λ r. r.asked) (filter (λ r. nat_eq r.client client) requests))
        (range_with_len 0 16);
    joins = flat_map (λ r. option_to_list r.joined) requests;
  })
