-- The lines of the replies.
use Rattle.std.specs.Prelude.{◌≡◌, ℕ, ◌*◌, ◌/◌, ◌<◌, ◌≤◌, List, [], ◌∷◌, ◌++◌, length, take, drop, min, codes, decimal, flat_map, slice_index_or, sum_by, Vec, Some, None, slice_get}
use Rattle.std.specs.List.{range_with_len}
use Rattle.std.specs.Simd.{first_chunks}
use Rattle.std.specs.declared.alloc.Global.{Global}
use Rattle.blk_plain.specs.declared.op.Op.TheVariants as op
use Rattle.graph_mean.specs.declared.refusal.Refusal.{Refusal}
use Rattle.graph_mean.specs.declared.refusal.Refusal.TheVariants as cause
use Rattle.eng_world.specs.declared.item.Item.{Item}
use Rattle.eng_world.specs.declared.item.Item.TheVariants as item
use Rattle.eng_world.specs.declared.item.Reply.{Reply}
use Rattle.eng_world.specs.declared.item.Reply.TheVariants as reply
use Rattle.item_list.specs.ItemList.{ItemList}
use Rattle.put_line.specs.Line.{line}
use Rattle.raid_script.specs.Blocks.{blocks_text}

-- ---- the words of a reply

-- of each cause its name and its fields
abbrev pub cause_of : Refusal → List ℕ × List ℕ
cause_of cause.Large = (codes "G14", [])
cause_of (cause.Index what place) = (codes "G1", what ∷ place ∷ [])
cause_of (cause.Order node) = (codes "G2", node ∷ [])
cause_of (cause.Commits count) = (codes "G3", count ∷ [])
cause_of (cause.Ends count node) = (codes "G4", count ∷ node ∷ [])
cause_of (cause.Assigned buffer times) = (codes "G5", buffer ∷ times ∷ [])
cause_of (cause.Unordered node buffer) = (codes "G6", node ∷ buffer ∷ [])
cause_of (cause.LateRead node) = (codes "G7", node ∷ [])
cause_of (cause.EarlyWrite node) = (codes "G8", node ∷ [])
cause_of (cause.Missing node) = (codes "G9", node ∷ [])
cause_of (cause.Twice first second) = (codes "G10", first ∷ second ∷ [])
cause_of (cause.Mixed what place) = (codes "G11", what ∷ place ∷ [])
cause_of (cause.WrongValue stripe unit offset) = (codes "G12", stripe ∷ unit ∷ offset ∷ [])
cause_of (cause.WrongReturn block) = (codes "G13", block ∷ [])

-- of each reply its words and its numbers
abbrev pub reply_of : Reply → List ℕ × List ℕ
reply_of reply.Done = (codes "done", [])
reply_of reply.Data = (codes "data", [])
reply_of reply.Okay = (codes "ok", [])
reply_of (reply.Undone device) = (codes "undone", device ∷ [])
reply_of reply.Range = (codes "refused R1", [])
reply_of reply.Long = (codes "refused R2", [])
reply_of (reply.Refused cause) = (codes "refused " ++ (cause_of cause).0, (cause_of cause).1)
reply_of reply.Lost = (codes "lost", [])

-- reply C.I, the words and the numbers, with a space before each
unfoldable pub reply_line : ℕ → ℕ → Reply → List ℕ
reply_line client index told =
    line (codes "reply " ∷ decimal client ∷ codes "." ∷ decimal index ∷ codes " "
    ∷ (reply_of told).0
    ∷ flat_map (λ number. codes " " ++ decimal number) (reply_of told).1 ∷ codes "\n" ∷ [])

-- ---- which sectors a reply has

-- how many sectors an item is handed
abbrev pub item_sectors : Item → ℕ
item_sectors (item.Run o graph) = elim o [ op.Read span ↦ span.count | _ ↦ 0 ]
item_sectors (item.Fail column) = 0

-- and all items of a client
abbrev pub row_sectors : List Item → ℕ
row_sectors items = sum_by item_sectors items

-- Of a client's bytes, those of item i: the sectors of each item stand behind those of the items before it, those of a
-- read that isn't replied its data too.
abbrev pub item_bytes : List Item → List ℕ → ℕ → ℕ → List ℕ
item_bytes items bytes i count = take (512 * count) (drop (512 * row_sectors (take i items)) bytes)

-- the first block of an item's
abbrev pub item_first : Item → ℕ
item_first (item.Run o graph) = elim o [ op.Read span ↦ span.first | _ ↦ 0 ]
item_first (item.Fail column) = 0

-- the runs of the sectors behind `data`, and nothing behind another reply
abbrev pub data_text : Reply → ℕ → List ℕ → List ℕ
data_text reply.Data first bytes = blocks_text first (first_chunks 512 (length bytes / 512) bytes)
data_text _ first bytes = []

-- what stands at a place where there is no item, and no reply
abbrev pub no_item : Item
no_item = item.Fail 0

-- the lines of a client, in the order of its items: of each its reply, and what was read
abbrev pub row_text : ℕ → List Item → List Reply → List ℕ → List ℕ
row_text client items replies bytes = flat_map
    (λ i. let asked = slice_index_or items i no_item in
    let told = slice_index_or replies i reply.Done in
    reply_line client i told
    ++ data_text told (item_first asked) (item_bytes items bytes i (item_sectors asked)))
    (range_with_len 0 (length items))

-- the items of the client of this number
abbrev pub items_at : List ItemList → ℕ → List Item
items_at clients c = elim (slice_get clients c) [ None ↦ [] | Some items ↦ items.items ]

-- its replies
abbrev pub replies_at : List (Vec Reply Global) → ℕ → List Reply
replies_at replies c = elim (slice_get replies c) [ None ↦ [] | Some told ↦ told.items ]

-- the sectors of the clients before this one
abbrev pub sectors_before : List ItemList → ℕ → ℕ
sectors_before clients c = sum_by (λ row. row_sectors row.items) (take c clients)

-- the lines of the clients below 16, in their order, each of whose bytes stand behind those of the
-- clients before it
abbrev pub replies_text : List ItemList → List (Vec Reply Global) → List ℕ → List ℕ
replies_text clients replies bytes = flat_map
    (λ c. row_text c (items_at clients c) (replies_at replies c)
    (drop (512 * sectors_before clients c) bytes))
    (range_with_len 0 (min (length clients) 16))

-- The replies and bytes stand for these items: each item has its reply, and each item its sectors.
pub record StandFor (clients : List ItemList) (replies : List (Vec Reply Global)) (bytes : List ℕ) : Type 0 where
  pub clients_answered : length clients ≤ length replies
  pub items_answered : (c : ℕ) → c < length clients → length (replies_at replies c) ≡ length (items_at clients c)
  pub enough : 512 * sum_by (λ row. row_sectors row.items) clients ≤ length bytes
