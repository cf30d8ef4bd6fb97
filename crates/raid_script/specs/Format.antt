-- What the functions that read a script find: what each line asks for, or the code by which it is
-- refused; Texts says it in one.
use Rattle.std.specs.Prelude.{ℕ, zero, suc, ◌+◌, ◌&&◌, ◌||◌, not, Bool, true, List, [], ◌∷◌, Option, Some, None, Result, Ok, Err, length, if◌then◌else◌, nat_eq, nat_le, nat_lt, codes, position, ok_or, option_to_list}
use Rattle.std.specs.List.{list_all}
use Rattle.std.specs.Str.{bytes_eq}
use Rattle.raid_text.specs.Text.{Text, Numbered, is_sound, words_of}
use Rattle.raid_text.specs.Pattern.{pattern_of}
use Rattle.text_steps.specs.Steps.{◌>>=◌, at_end, next_number, next_word, only_if, at_line}
use Rattle.graph_text.specs.Format.{Named}
use Rattle.text_steps.specs.declared.at.At.{At}
use Rattle.raid_script.specs.Asked.{Asked, AskedPatch, Writes, WritesAll, Reads, Syncs, Fails, Request, read_sectors}

-- ---- words

-- the client that comes next, and the words behind it; code 3 where it isn't below 16
unfoldable pub next_client : List Text → Result (ℕ × List Text) ℕ
next_client words = do
  client ← next_number words
  known ← only_if (nat_lt client.0 16) 3
  Ok client

-- FIRST and COUNT, and the words behind them; code 2 where COUNT is 0
unfoldable pub next_span : List Text → Result (ℕ × ℕ × List Text) ℕ
next_span words = do
  first ← next_number words
  count ← next_number first.1
  some ← only_if (not (nat_eq count.0 0)) 2
  Ok (first.0, count.0, count.1)

-- the bytes of the pattern that comes next, and the words behind it; code 4 where the word is none
unfoldable pub next_pattern : List Text → Result (List ℕ × List Text) ℕ
next_pattern words = do
  word ← next_word words
  bytes ← ok_or (pattern_of word.0) 4
  Ok (bytes, word.1)

-- the column that comes next, and the words behind it; code 5 where the array hasn't so many
unfoldable pub next_column : ℕ → List Text → Result (ℕ × List Text) ℕ
next_column columns words = do
  column ← next_number words
  known ← only_if (nat_lt column.0 columns) 5
  Ok column

-- the graph whose name comes next, and the words behind it; code 6 where none has this name
unfoldable pub next_graph : List Named → List Text → Result (ℕ × List Text) ℕ
next_graph book words = do
  name ← next_word words
  graph ← ok_or (position (λ g. bytes_eq g.name name.0) book) 6
  Ok (graph, name.1)

-- FIRST COUNT PATTERN, and the words behind them
unfoldable pub next_patch : List Text → Result (AskedPatch × List Text) ℕ
next_patch words = do
  span ← next_span words
  bytes ← next_pattern span.2
  Ok (record { span = record { first = span.0; count = span.1 }; bytes = bytes.0 }, bytes.1)

-- as many of them as the line has, at most n; code 1 where it has more words
unfoldable pub patches_of : ℕ → List Text → Result (List AskedPatch) ℕ
patches_of zero words = do
  end ← at_end words
  Ok []
patches_of (suc n) [] = Ok []
patches_of (suc n) (word ∷ words) = do
  patch ← next_patch (word ∷ words)
  more ← patches_of n patch.1
  Ok (patch.0 ∷ more)

-- of each two that is so
abbrev pub are_apart : List AskedPatch → Bool
are_apart [] = true
are_apart (patch ∷ patches) = list_all
    (λ other. nat_le (patch.span.first + patch.span.count) other.span.first
    || nat_le (other.span.first + other.span.count) patch.span.first) patches
    && are_apart patches

-- FIRST COUNT PATTERN, one to eight times
unfoldable pub all_patches_of : List Text → Result (List AskedPatch) ℕ
all_patches_of words = do
  first ← next_patch words
  more ← patches_of 7 first.1
  Ok (first.0 ∷ more)

-- What stands behind `write`, FIRST COUNT PATTERN; behind `writes`, the same one to eight times,
-- and code 9 where two of the spans share a block; or behind `read`, FIRST COUNT.
unfoldable pub run_of : Option ℕ → Text → List Text → Result Asked ℕ
run_of graph kind words =
    if bytes_eq kind (codes "write") then (do
      span ← next_span words
      bytes ← next_pattern span.2
      end ← at_end bytes.1
      Ok (Writes span.0 span.1 bytes.0 graph))
    else (if bytes_eq kind (codes "writes") then (do
      patches ← all_patches_of words
      apart ← only_if (are_apart patches) 9
      Ok (WritesAll patches graph))
    else (if bytes_eq kind (codes "read") then (do
      span ← next_span words
      end ← at_end span.2
      Ok (Reads span.0 span.1 graph))
    else Err 1))

-- what stands behind the word that says what kind of item it is
unfoldable pub item_of : List Named → ℕ → Text → List Text → Result Asked ℕ
item_of book columns kind words =
    if bytes_eq kind (codes "sync") then (do
      stripe ← next_number words
      end ← at_end stripe.1
      Ok (Syncs stripe.0))
    else (if bytes_eq kind (codes "fail") then (do
      column ← next_column columns words
      end ← at_end column.1
      Ok (Fails column.0))
    else (if bytes_eq kind (codes "use") then (do
      graph ← next_graph book words
      run ← next_word graph.1
      run_of (Some graph.0) run.0 run.1)
    else run_of None kind words))

-- NAME FIRST COUNT PATTERN, twice: the graphs, and what is written
pub record Halves : Type 0 where
  pub first : ℕ
  pub one : AskedPatch
  pub second : ℕ
  pub other : AskedPatch

unfoldable pub halves_of : List Named → List Text → Result Halves ℕ
halves_of book words = do
  first ← next_graph book words
  one ← next_patch first.1
  second ← next_graph book one.1
  other ← next_patch second.1
  end ← at_end other.1
  Ok (record { first = first.0; one = one.0; second = second.0; other = other.0 })

-- a write of both by the two graphs joined, which has the number behind those of the book and of the j that are joined before; code 9 where the spans share a block, and code 13 where 64 are joined before
unfoldable pub join_of : List Named → ℕ → ℕ → ℕ → List Text → Result Request ℕ
join_of book j line client words = do
  halves ← halves_of book words
  apart ← only_if (are_apart (halves.one ∷ halves.other ∷ [])) 9
  few ← only_if (nat_lt j 64) 13
  Ok (record { client = client; asked = WritesAll (halves.one ∷ halves.other ∷ []) (Some (length book + j)); joined = Some (record { line = line; first = halves.first; second = halves.second }) })

-- the item of a line, which code 1 refuses where a byte outside its comment neither separates words nor may stand in one
unfoldable pub line_of : List Named → ℕ → ℕ → Numbered → Result Request ℕ
line_of book columns j line = do
  sound ← only_if (is_sound line.body) 1
  client ← next_client (words_of line.body)
  kind ← next_word client.1
  if bytes_eq kind.0 (codes "join") then join_of book j line.at client.0 kind.1
      else (item_of book columns kind.0 kind.1 >>= λ asked.
      Ok (record { client = client.0; asked = asked; joined = None }))

-- ---- all lines

-- the item of a line, behind n items whose reads have r sectors, and j join lines; code 7 where the items are too many with it
unfoldable pub next_of : List Named → ℕ → ℕ → ℕ → ℕ → Numbered → Result Request ℕ
next_of book columns n r j line = do
  request ← line_of book columns j line
  room ← only_if (nat_lt n 65536 && nat_le (r + read_sectors request.asked) 262144) 7
  Ok request

-- the items of these lines, behind n items whose reads have r sectors, and j join lines
unfoldable pub requests_behind : List Named → ℕ → ℕ → ℕ → ℕ → List Numbered → Result (List Request) At
requests_behind book columns n r j [] = Ok []
requests_behind book columns n r j (line ∷ lines) = do
  request ← at_line line.at (next_of book columns n r j line)
  more ← requests_behind book columns (n + 1) (r + read_sectors request.asked) (j + length (option_to_list request.joined)) lines
  Ok (request ∷ more)
