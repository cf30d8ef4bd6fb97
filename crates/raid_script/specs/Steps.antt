-- What the functions that read a line, or print one, find piece by piece; Format, Trace, History
-- and Blocks say it in one.
use Rattle.std.specs.Prelude.{ℕ, List, [], ◌∷◌, codes, decimal, ◌+◌, ◌||◌, Bool, Option, Some, None, Result, Ok, if◌then◌else◌, nat_le, position, ◌/◌, length, map, filter, nat_eq, min, ◌*◌, ◌++◌, take, drop, flat_map, slice_index_or, Vec, sum_by, ◌^◌}
use Rattle.put_line.specs.Line.{line}
use Rattle.blk_plain.specs.declared.op.OpId.{OpId}
use Rattle.hex.specs.Hex.{encode_lower}
use Rattle.raid_script.specs.Repetition.{shortest}
use Rattle.std.specs.Str.{bytes_eq}
use Rattle.raid_text.specs.Text.{Text, lines_in}
use Rattle.text_steps.specs.Steps.{at_end, next_number, next_word, only_if, ◌>>=◌}
use Rattle.graph_text.specs.Format.{Named}
use Rattle.text_steps.specs.declared.at.At.{At}
use Rattle.raid_script.specs.Asked.{Asked, AskedPatch, Writes, WritesAll, Reads, Syncs, Fails, Request, Other, Scripted, scripted}
use Rattle.raid_script.specs.Format.{next_client, next_span, next_pattern, next_column, next_graph, are_apart, all_patches_of, run_of, item_of, join_of, requests_behind}
use Rattle.std.specs.Simd.{first_chunks}
use Rattle.blk_plain.specs.declared.op.Patch.{Patch}
use Rattle.blk_plain.specs.declared.op.Op.{Op}
use Rattle.blk_plain.specs.declared.op.Op.TheVariants as op
use Rattle.raid_text.specs.Pattern.{pattern_bytes}
use Rattle.raid_script.specs.declared.join.Join.{Join}
use Rattle.std.specs.declared.alloc.Global.{Global}
use Rattle.eng_world.specs.declared.item.Item.{Item}
use Rattle.eng_world.specs.declared.item.Reply.{Reply}
use Rattle.eng_world.specs.declared.item.Reply.TheVariants as reply
use Rattle.item_list.specs.ItemList.{ItemList}
use Rattle.raid_script.specs.Replies.{reply_line, item_sectors, item_bytes, item_first, data_text, no_item, row_text, items_at, replies_at, sectors_before}
use Rattle.blk_plain.specs.Plain.{used_of}
use Rattle.raid_script.specs.Summary.{item_writes, data_sum, row_sum}
use Rattle.raid_script.specs.Runs.{SectorRun}
use Rattle.std.specs.List.{range_with_len}
use Rattle.blk_plain.specs.declared.op.Patches.{Patches}
use Rattle.eng_world.specs.declared.item.Item.TheVariants.{Fail}
use Rattle.raid_script.specs.declared.entry.Entry.{Entry}
use Rattle.raid_script.specs.declared.entry.Room.{Room}
use Rattle.raid_script.specs.declared.entry.Said.{Said}
use Rattle.raid_script.specs.declared.entry.Said.TheVariants as said

-- a word and a column
unfoldable pub column_line : List ℕ → ℕ → List ℕ
column_line word column = line (word ∷ codes " " ∷ decimal column ∷ codes "\n" ∷ [])

-- fill COLUMN DEVICE COUNT
unfoldable pub fill_line : ℕ → ℕ → ℕ → List ℕ
fill_line column device count = line (codes "fill " ∷ decimal column ∷ codes " " ∷ decimal device ∷ codes " " ∷ decimal count ∷ codes "\n" ∷ [])

-- resume COLUMN COUNT
unfoldable pub resume_line : ℕ → ℕ → List ℕ
resume_line column count = line (codes "resume " ∷ decimal column ∷ codes " " ∷ decimal count ∷ codes "\n" ∷ [])

-- commit C.I
unfoldable pub commit_line : OpId → List ℕ
commit_line id = line (codes "commit " ∷ decimal id.client ∷ codes "." ∷ decimal id.index ∷ codes "\n" ∷ [])

-- block FIRST COUNT HEX
unfoldable pub block_line : ℕ → ℕ → List ℕ → List ℕ
block_line first count sector = line
    (codes "block " ∷ decimal first ∷ codes " " ∷ decimal count ∷ codes " " ∷ encode_lower (shortest sector) ∷ codes "\n" ∷ [])

-- the number of the graph of this name
unfoldable pub graph_of : List Named → Text → Option ℕ
graph_of book name = position (λ g. bytes_eq g.name name) book

-- FIRST COUNT PATTERN
unfoldable pub write_of : Option ℕ → List Text → Result Asked ℕ
write_of graph words = do
  span ← next_span words
  bytes ← next_pattern span.2
  end ← at_end bytes.1
  Ok (Writes span.0 span.1 bytes.0 graph)

-- one of the two spans ends before the other begins
abbrev pub are_two_apart : AskedPatch → AskedPatch → Bool
are_two_apart p q = nat_le (p.span.first + p.span.count) q.span.first || nat_le (q.span.first + q.span.count) p.span.first

-- the same; code 9 where two of the spans share a block
unfoldable pub writes_of : Option ℕ → List Text → Result Asked ℕ
writes_of graph words = do
  patches ← all_patches_of words
  apart ← only_if (are_apart patches) 9
  Ok (WritesAll patches graph)

-- FIRST COUNT
unfoldable pub read_of : Option ℕ → List Text → Result Asked ℕ
read_of graph words = do
  span ← next_span words
  end ← at_end span.2
  Ok (Reads span.0 span.1 graph)

-- STRIPE
unfoldable pub sync_of : List Text → Result Asked ℕ
sync_of words = do
  stripe ← next_number words
  end ← at_end stripe.1
  Ok (Syncs stripe.0)

-- COLUMN
unfoldable pub fail_of : ℕ → List Text → Result Asked ℕ
fail_of columns words = do
  column ← next_column columns words
  end ← at_end column.1
  Ok (Fails column.0)

-- NAME, and a write or a read behind it
unfoldable pub use_of : List Named → List Text → Result Asked ℕ
use_of book words = do
  graph ← next_graph book words
  kind ← next_word graph.1
  run_of (Some graph.0) kind.0 kind.1

-- any other item
unfoldable pub plain_of : List Named → ℕ → ℕ → Text → List Text → Result Request ℕ
plain_of book columns client kind words = do
  asked ← item_of book columns kind words
  Ok (record { client = client; asked = asked; joined = None })

-- what stands behind the client, and the word that says what kind of item it is
unfoldable pub asked_of : List Named → ℕ → ℕ → ℕ → ℕ → Text → List Text → Result Request ℕ
asked_of book columns j line client kind words =
    if bytes_eq kind (codes "join") then join_of book j line client words else plain_of book columns client kind words

-- a client and its item, in this line and behind j join lines
unfoldable pub request_of : List Named → ℕ → ℕ → ℕ → List Text → Result Request ℕ
request_of book columns j line words = do
  client ← next_client words
  kind ← next_word client.1
  asked_of book columns j line client.0 kind.0 kind.1

-- the items of a text, in the order of its lines
abbrev pub requests_of : List Named → ℕ → Text → Result (List Request) At
requests_of book columns text = requests_behind book columns 0 0 0 (lines_in text)

-- what they ask for by client, and the join lines
abbrev pub script_in : List Named → ℕ → Text → Result Scripted At
script_in book columns text = requests_of book columns text >>= λ requests. Ok (scripted requests)

-- the sectors that bytes are
abbrev pub sectors_of : List ℕ → List (List ℕ)
sectors_of bytes = first_chunks 512 (length bytes / 512) bytes

abbrev pub seen_patch : Patch → AskedPatch
seen_patch patch = record { span = patch.span; bytes = pattern_bytes patch.pattern }

-- the patches in use, as what they ask for
abbrev pub seen_patches : Patches → List AskedPatch
seen_patches patches =
    map (λ (p : Patch). record { span = p.span; bytes = pattern_bytes p.pattern }) (used_of patches)

abbrev pub seen_op : Op → Option ℕ → Asked
seen_op (op.Write span pattern) graph = Writes span.first span.count (pattern_bytes pattern) graph
seen_op (op.Writes patches) graph = if nat_le patches.used 8 then WritesAll (seen_patches patches) graph else Other
seen_op (op.Read span) graph = Reads span.first span.count graph
seen_op (op.Sync stripe) None = Syncs stripe
seen_op (op.Sync stripe) (Some graph) = Other
seen_op (op.Rebuild stripe) graph = Other

-- what this client asks for, in order
unfoldable pub asked_by : List Request → ℕ → List Asked
asked_by requests client = map (λ r. r.asked) (filter (λ r. nat_eq r.client client) requests)

-- the join line that there is, if there is one
abbrev pub joined_in : Option Join → List Join
joined_in None = []
joined_in (Some join) = join ∷ []

-- what is printed of an operation: commit C.I, and nothing of client 16, the array's own
abbrev pub commit_text : OpId → List ℕ
commit_text id = if nat_eq id.client 16 then []
    else line (codes "commit " ∷ decimal id.client ∷ codes "." ∷ decimal id.index ∷ codes "\n" ∷ [])

-- the blocks of each one's share
abbrev pub share : (clients blocks : ℕ) → ℕ
share clients blocks = blocks / min clients blocks

-- numbers, with a space before each
abbrev pub numbers_text : List ℕ → List ℕ
numbers_text numbers = flat_map (λ number. codes " " ++ decimal number) numbers

-- how many sectors an item is handed
abbrev pub op_sectors : Op → ℕ
op_sectors (op.Write span pattern) = 0
op_sectors (op.Writes patches) = 0
op_sectors (op.Read span) = span.count
op_sectors (op.Rebuild stripe) = 0
op_sectors (op.Sync stripe) = 0

-- of these bytes those of so many sectors, from this one on
abbrev pub bytes_from : List ℕ → ℕ → ℕ → List ℕ
bytes_from bytes from count = take (512 * count) (drop (512 * from) bytes)

-- the first block of an item's
abbrev pub op_first : Op → ℕ
op_first (op.Write span pattern) = 0
op_first (op.Writes patches) = 0
op_first (op.Read span) = span.first
op_first (op.Rebuild stripe) = 0
op_first (op.Sync stripe) = 0

-- the lines of an item
abbrev pub item_text : ℕ → ℕ → Item → Reply → List ℕ → List ℕ
item_text client index asked told bytes = reply_line client index told ++ data_text told (item_first asked) bytes

-- the lines of a client's item i, with its bytes from the client's
abbrev pub place_text : ℕ → List Item → List Reply → List ℕ → ℕ → List ℕ
place_text client items replies bytes i =
    item_text client i (slice_index_or items i no_item) (slice_index_or replies i reply.Done) (item_bytes items bytes i (item_sectors (slice_index_or items i no_item)))

-- the items, and the replies, of the client of this number
abbrev pub items_in : Option ItemList → List Item
items_in None = []
items_in (Some items) = items.items

abbrev pub replies_in : Option (Vec Reply Global) → List Reply
replies_in None = []
replies_in (Some replies) = replies.items

-- the lines of client c, whose bytes stand behind those of the clients before it
abbrev pub client_text : List ItemList → List (Vec Reply Global) → List ℕ → ℕ → List ℕ
client_text clients replies bytes c = row_text c (items_at clients c) (replies_at replies c) (drop (512 * sectors_before clients c) bytes)

-- how many sectors an item writes
abbrev pub op_writes : Op → ℕ
op_writes (op.Write span pattern) = span.count
op_writes (op.Writes patches) = sum_by (λ p. p.span.count) (used_of patches)
op_writes (op.Read span) = 0
op_writes (op.Rebuild stripe) = 0
op_writes (op.Sync stripe) = 0

-- and all items of a client
abbrev pub row_writes : List Item → ℕ
row_writes items = sum_by item_writes items

-- the sum of bytes
abbrev pub byte_sum : List ℕ → ℕ
byte_sum bytes = sum_by (λ (byte : ℕ). byte) bytes

-- what a client's item i was replied, with its bytes from the client's
abbrev pub place_sum : List Item → List Reply → List ℕ → ℕ → ℕ
place_sum items replies bytes i = data_sum (slice_index_or replies i reply.Done) (item_bytes items bytes i (item_sectors (slice_index_or items i no_item)))

abbrev pub client_sum : List ItemList → List (Vec Reply Global) → List ℕ → ℕ → ℕ
client_sum clients replies bytes c = row_sum (items_at clients c) (replies_at replies c) (drop (512 * sectors_before clients c) bytes)

-- a word and C.I
unfoldable pub id_line : List ℕ → OpId → List ℕ
id_line word id = line (word ∷ codes " " ∷ decimal id.client ∷ codes "." ∷ decimal id.index ∷ codes "\n" ∷ [])

-- a word, C.I and a node
unfoldable pub node_line : List ℕ → OpId → ℕ → List ℕ
node_line word id node = line (word ∷ codes " " ∷ decimal id.client ∷ codes "." ∷ decimal id.index ∷ codes " " ∷ decimal node ∷ codes "\n" ∷ [])

-- sweep clients C operations T
unfoldable pub sweep_line : ℕ → ℕ → List ℕ
sweep_line clients operations = line (codes "sweep clients " ∷ decimal clients ∷ codes " operations " ∷ decimal operations ∷ codes "\n" ∷ [])

-- written W read R sum S
unfoldable pub written_line : ℕ → ℕ → ℕ → List ℕ
written_line written read sum = line (codes "written " ∷ decimal written ∷ codes " read " ∷ decimal read ∷ codes " sum " ∷ decimal sum ∷ codes "\n" ∷ [])

-- the runs as a sector comes in front of them: it joins the first one where that has its bytes
abbrev pub joined : List ℕ → List SectorRun → List SectorRun
joined sector [] = record { sector = sector; count = 1 } ∷ []
joined sector (first ∷ others) =
    if bytes_eq sector first.sector
    then record { sector = sector; count = first.count + 1 } ∷ others
    else record { sector = sector; count = 1 } ∷ first ∷ others

-- the lengths that a string may have: 1, 2, 4, .., 512
unfoldable pub lengths : List ℕ
lengths = map (λ k. 2 ^ k) (range_with_len 0 10)

-- what a line says, where what it writes is in this room
abbrev pub seen_said : Room → Said → Asked
seen_said room (said.Write span graph) = Writes span.first span.count (pattern_bytes room.pattern) graph
seen_said room (said.Writes graph) = if nat_le room.patches.used 8 then WritesAll (seen_patches room.patches) graph else Other
seen_said room (said.Read span graph) = Reads span.first span.count graph
seen_said room (said.Sync stripe) = Syncs stripe
seen_said room (said.Fail column) = Fails column

abbrev pub seen_entry : Room → Entry → Request
seen_entry room e = record { client = e.client; asked = seen_said room e.said; joined = e.join }
