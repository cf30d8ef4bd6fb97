-- What contracts see of a list of items.
use Rattle.std.specs.Prelude.{ℕ, List, Option, Some, None, slice_get}
use Rattle.blk_plain.specs.declared.op.Op.{Op}
use Rattle.blk_plain.specs.declared.op.Op.TheVariants as op
use Rattle.blk_plain.specs.declared.op.Span.{Span}
use Rattle.eng_world.specs.declared.item.Item.{Item}
use Rattle.eng_world.specs.declared.item.Item.TheVariants as item

-- the items in their order, and for how many rebuilds there is room without more memory
pub record ItemList : Type 0 where
  pub items : List Item
  pub room : ℕ

-- the span that an operation, or an item, reads
abbrev pub op_read : Op → Option Span
op_read (op.Write span pattern) = None
op_read (op.Writes patches) = None
op_read (op.Read span) = Some span
op_read (op.Rebuild stripe) = None
op_read (op.Sync stripe) = None

abbrev pub item_read : Item → Option Span
item_read (item.Run op file) = op_read op
item_read (item.Fail column) = None

abbrev pub read_in : Option Item → Option Span
read_in None = None
read_in (Some i) = item_read i

-- that of the item at a place
abbrev pub read_at : List Item → ℕ → Option Span
read_at items at = read_in (slice_get items at)
