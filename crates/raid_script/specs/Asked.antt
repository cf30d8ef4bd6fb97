-- What a script asks for: its items as they are spoken of, each with its client, and in the order of the clients.
use Rattle.std.specs.Prelude.{◌≡◌, ℕ, ◌+◌, ◌<◌, ◌≤◌, ◌^◌, true, List, [], ◌∷◌, ◌++◌, Option, Some, None, if◌then◌else◌, length, map, filter, sum_by, nat_eq, nat_le, slice_index_or, slice_set, All, AllPairs, option_to_list}
use Rattle.std.specs.List.{range_with_len}
use Rattle.std.specs.Option.{ForSome}
use Rattle.blk_plain.specs.declared.op.Span.{Span}
use Rattle.blk_plain.specs.declared.op.Patch.{Patch}
use Rattle.blk_plain.specs.declared.op.Op.TheVariants as op
use Rattle.blk_plain.specs.Plain.{is_in, used_of}
use Rattle.raid_text.specs.Pattern.{pattern_bytes}
use Rattle.eng_world.specs.declared.item.Item.{Item}
use Rattle.eng_world.specs.declared.item.Item.TheVariants.{Run, Fail}
use Rattle.raid_script.specs.declared.join.Join.{Join}

-- a span of blocks, and the bytes that are repeated in each of them
pub record AskedPatch : Type 0 where
  pub span : Span
  pub bytes : List ℕ

-- What an item asks for: the first block, how many, the bytes that are repeated, and the graph of the file, if one is named; several spans; a stripe; a column.
pub data Asked : Type 0 where
  Writes : ℕ → ℕ → List ℕ → Option ℕ → Asked
  WritesAll : List AskedPatch → Option ℕ → Asked
  Reads : ℕ → ℕ → Option ℕ → Asked
  Syncs : ℕ → Asked
  Fails : ℕ → Asked
  Other : Asked

-- what a client asks for, and which graphs are joined for it, if any are
pub record Request : Type 0 where
  pub client : ℕ
  pub asked : Asked
  pub joined : Option Join

-- what all clients ask for, and the join lines, in order
pub record Scripted : Type 0 where
  pub clients : List (List Asked)
  pub joins : List Join

-- ---- items, as what they ask for; no script asks for a rebuild, for a sync by a graph of the file, or for more than eight spans

abbrev pub seen : Item → Asked
seen (Run (op.Write span pattern) graph) = Writes span.first span.count (pattern_bytes pattern) graph
seen (Run (op.Writes patches) graph) =
    if nat_le patches.used 8
    then WritesAll (map (λ (p : Patch). record { span = p.span; bytes = pattern_bytes p.pattern }) (used_of patches)) graph
    else Other
seen (Run (op.Read span) graph) = Reads span.first span.count graph
seen (Run (op.Sync stripe) None) = Syncs stripe
seen (Run (op.Sync stripe) (Some graph)) = Other
seen (Run (op.Rebuild stripe) graph) = Other
seen (Fail column) = Fails column

-- ---- by client

-- what each of the first n clients asks for, in order
unfoldable pub by_first : ℕ → List Request → List (List Asked)
by_first n requests =
    map (λ client. map (λ r. r.asked) (filter (λ r. nat_eq r.client client) requests))
    (range_with_len 0 n)

-- those of all requests
unfoldable pub joins_of : List Request → List Join
joins_of [] = []
joins_of (r ∷ requests) = option_to_list r.joined ++ joins_of requests

-- what all clients ask for, and the join lines
abbrev pub scripted : List Request → Scripted
scripted requests = record {
  clients = by_first 16 requests;
  joins = joins_of requests;
}

-- what each client asks for, with one item more behind those of this client
abbrev pub with_asked : List (List Asked) → ℕ → Asked → List (List Asked)
with_asked rows client asked = slice_set rows client (slice_index_or rows client [] ++ asked ∷ [])

-- the same of a whole script
abbrev pub with_request : Scripted → Request → Scripted
with_request s r = record { clients = with_asked s.clients r.client r.asked; joins = s.joins ++ option_to_list r.joined }

-- ---- limits

-- how many sectors an item reads
abbrev pub read_sectors : Asked → ℕ
read_sectors (Writes first count bytes graph) = 0
read_sectors (WritesAll patches graph) = 0
read_sectors (Reads first count graph) = count
read_sectors (Syncs stripe) = 0
read_sectors (Fails column) = 0
read_sectors Other = 0

-- a block at least
abbrev pub IsPatch : AskedPatch → Type 0
IsPatch patch = (patch.span.first < 2 ^ 32) × (0 < patch.span.count)

-- no block is in both spans
abbrev pub ShareNone : AskedPatch → AskedPatch → Type 0
ShareNone p q = (b : ℕ) → is_in p.span b ≡ true → is_in q.span b ≡ true → ⊥

-- one to eight spans, no two of which share a block
pub record ArePatches (patches : List AskedPatch) : Type 0 where
  pub some : 1 ≤ length patches
  pub few : length patches ≤ 8
  pub each : All IsPatch patches
  pub apart : AllPairs ShareNone patches

-- an item that may stand in a script for an array of so many columns, beside so many graphs: a block at least in each span, a column of the array, a graph of the file
abbrev pub IsAsked : ℕ → ℕ → Asked → Type 0
IsAsked columns graphs (Writes first count bytes graph) = (first < 2 ^ 32) × (0 < count) × ForSome graph (λ g. g < graphs)
IsAsked columns graphs (WritesAll patches graph) = ArePatches patches × ForSome graph (λ g. g < graphs)
IsAsked columns graphs (Reads first count graph) = (first < 2 ^ 32) × (0 < count) × ForSome graph (λ g. g < graphs)
IsAsked columns graphs (Syncs stripe) = Unit {0}
IsAsked columns graphs (Fails column) = column < columns
IsAsked columns graphs Other = ⊥

-- a join line that may stand in a script beside so many graphs: two of them
pub record IsJoinOf (graphs : ℕ) (join : Join) : Type 0 where
  pub first : join.first < graphs
  pub second : join.second < graphs

-- at most 64, each of them so
pub record AreJoinsOf (graphs : ℕ) (joins : List Join) : Type 0 where
  pub few : length joins ≤ 64
  pub each : All (IsJoinOf graphs) joins

-- what may stand in a script: items by graphs of the file, or by those that are joined of them, whose numbers are behind theirs
pub record IsScript (columns graphs : ℕ) (s : Scripted) : Type 0 where
  pub asked : All (All (IsAsked columns (graphs + length s.joins))) s.clients
  pub joins : AreJoinsOf graphs s.joins

-- at most 16 clients, 65,536 items, and 262,144 sectors that are read
pub record AreFew (rows : List (List Asked)) : Type 0 where
  pub clients : length rows ≤ 16
  pub items : sum_by (λ row. length row) rows ≤ 65536
  pub sectors : sum_by (λ row. sum_by read_sectors row) rows ≤ 262144
