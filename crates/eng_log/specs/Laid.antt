-- The regions of what reads hand out, as a core opens: one for each item, one behind the other.
use Rattle.std.specs.Prelude.{◌≡◌, ◌<◌, ◌≤◌, ◌+◌, ◌*◌, ℕ, List, length, Option, Some, None, slice_get, slice_index_or, replicate, []}
use Rattle.blk_plain.specs.declared.op.Op.{Op}
use Rattle.blk_plain.specs.declared.op.Op.TheVariants as op
use Rattle.eng_world.specs.declared.item.Item.{Item}
use Rattle.eng_world.specs.declared.item.Item.TheVariants as item
use Rattle.item_list.specs.ItemList.{ItemList}
use Rattle.eng_rest.specs.Left.{below}
use Rattle.eng_log.specs.declared.region.Region.{Region}
use Rattle.eng_log.specs.Handed.{Handout, no_region}
use Rattle.eng_log.specs.Given.{items_at}

-- how many sectors an operation, or an item, hands out
abbrev pub op_sectors : Op → ℕ
op_sectors (op.Write span pattern) = 0
op_sectors (op.Writes patches) = 0
op_sectors (op.Read span) = span.count
op_sectors (op.Rebuild stripe) = 0
op_sectors (op.Sync stripe) = 0

abbrev pub item_sectors : Item → ℕ
item_sectors (item.Run op file) = op_sectors op
item_sectors (item.Fail column) = 0

abbrev pub sectors_in : Option Item → ℕ
sectors_in None = 0
sectors_in (Some i) = item_sectors i

-- item i's
abbrev pub sectors_at : List Item → ℕ → ℕ
sectors_at items i = sectors_in (slice_get items i)

-- all items' of a client
abbrev pub row_sectors : List ItemList → ℕ → ℕ
row_sectors given c = below (sectors_at (items_at given c)) (length (items_at given c))

-- those of the clients before this one
abbrev pub sectors_before : List ItemList → ℕ → ℕ
sectors_before given c = below (row_sectors given) c

-- how many items the clients before this one have
abbrev pub items_before : List ItemList → ℕ → ℕ
items_before given c = below (λ k. length (items_at given k)) c

-- a region for each of the first n items, from this sector on
pub record IsRow (items : List Item) (first n : ℕ) (row : List Region) : Type 0 where
  pub count : length row ≡ n
  pub each : (i : ℕ) → i < n → slice_index_or row i no_region ≡ record { first = first + below (sectors_at items) i; count = sectors_at items i }

-- a row for each of the first n clients
pub record AreRows (given : List ItemList) (n : ℕ) (rows : List (List Region)) : Type 0 where
  pub count : length rows ≡ n
  pub each : (c : ℕ) → c < n → IsRow (items_at given c) (sectors_before given c) (length (items_at given c)) (slice_index_or rows c [])

-- Each of the sixteen clients has a region for each of its items, as long as its read, and the engine's own so many empty ones; the bytes are zero.
pub record IsLaidOut (given : List ItemList) (own : ℕ) (h : Handout) : Type 0 where
  pub few : length given ≤ 16
  pub count : length h.regions ≡ 17
  pub rows : (c : ℕ) → c < 16 → IsRow (items_at given c) (sectors_before given c) (length (items_at given c)) (slice_index_or h.regions c [])
  pub own_row : slice_index_or h.regions 16 [] ≡ replicate own no_region
  pub bytes : h.bytes ≡ replicate (512 * sectors_before given 16) 0
