-- The lines that sum up a run of drawn items.
use Rattle.std.specs.Prelude.{ℕ, ◌*◌, List, [], ◌∷◌, ◌++◌, length, drop, codes, decimal, slice_index_or, sum_by, Vec}
use Rattle.std.specs.List.{range_with_len}
use Rattle.std.specs.declared.alloc.Global.{Global}
use Rattle.blk_plain.specs.declared.op.Op.TheVariants as op
use Rattle.blk_plain.specs.Plain.{used_of}
use Rattle.eng_world.specs.declared.item.Item.{Item}
use Rattle.eng_world.specs.declared.item.Item.TheVariants as item
use Rattle.eng_world.specs.declared.item.Reply.{Reply}
use Rattle.eng_world.specs.declared.item.Reply.TheVariants as reply
use Rattle.item_list.specs.ItemList.{ItemList}
use Rattle.put_line.specs.Line.{line}
use Rattle.raid_script.specs.Replies.{item_sectors, row_sectors, item_bytes, items_at, replies_at, sectors_before, no_item}

-- how many sectors an item writes
abbrev pub item_writes : Item → ℕ
item_writes (item.Run o graph) = elim o [
  | op.Write span pattern ↦ span.count
  | op.Writes patches ↦ sum_by (λ p. p.span.count) (used_of patches)
  | _ ↦ 0
]
item_writes (item.Fail column) = 0

-- the sum of the bytes behind `data`, and 0 of another reply
abbrev pub data_sum : Reply → List ℕ → ℕ
data_sum reply.Data bytes = sum_by (λ (byte : ℕ). byte) bytes
data_sum _ bytes = 0

-- what a client was replied, with its bytes
abbrev pub row_sum : List Item → List Reply → List ℕ → ℕ
row_sum items replies bytes = sum_by
    (λ i. data_sum (slice_index_or replies i reply.Done)
    (item_bytes items bytes i (item_sectors (slice_index_or items i no_item))))
    (range_with_len 0 (length items))

-- what all were
abbrev pub all_sum : List ItemList → List (Vec Reply Global) → List ℕ → ℕ
all_sum clients replies bytes = sum_by
    (λ c. row_sum (items_at clients c) (replies_at replies c)
    (drop (512 * sectors_before clients c) bytes))
    (range_with_len 0 (length clients))

-- Both lines: how many clients and items there are; the sectors that they write and read, and the sum of what they were replied.
abbrev pub summary_text : List ItemList → List (Vec Reply Global) → List ℕ → List ℕ
summary_text clients replies bytes =
    line (codes "sweep clients " ∷ decimal (length clients) ∷ codes " operations "
    ∷ decimal (sum_by (λ row. length row.items) clients) ∷ codes "\n" ∷ [])
    ++ line (codes "written " ∷ decimal (sum_by (λ row. sum_by item_writes row.items) clients)
    ∷ codes " read " ∷ decimal (sum_by (λ row. row_sectors row.items) clients)
    ∷ codes " sum " ∷ decimal (all_sum clients replies bytes) ∷ codes "\n" ∷ [])
