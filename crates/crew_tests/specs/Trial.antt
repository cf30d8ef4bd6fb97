-- What tests ask of clients: small writes and reads; and what they know of a core that is to be served.
use Rattle.std.specs.Prelude.{◌≤◌, length, Some, None, All}
use Rattle.blk_plain.specs.declared.op.Op.{Op}
use Rattle.blk_plain.specs.declared.op.Op.TheVariants as op
use Rattle.blk_disk.specs.declared.disk.Disk.{Ghosts as DiskGhosts}
use Rattle.lay_core.specs.declared.layout.Layout.{Ghosts as LayoutGhosts}
use Rattle.eng_world.specs.declared.item.Item.{Item}
use Rattle.eng_world.specs.declared.item.Item.TheVariants as item
use Rattle.item_list.specs.ItemList.{ItemList}
use Rattle.eng_plan.specs.Asked.{HasBlocks}
use Rattle.eng_state.specs.declared.array.Array.{Array}
use Rattle.eng_events.specs.Opened.{NoneOut}
use Rattle.eng_array.specs.Steady.{IsSteady}

-- a write of some blocks, of one span or of several, or a read of one to four
abbrev pub IsSmallOp : Op → Type 0
IsSmallOp (op.Write span pattern) = 1 ≤ span.count
IsSmallOp (op.Writes patches) = HasBlocks (op.Writes patches)
IsSmallOp (op.Read span) = (1 ≤ span.count) × (span.count ≤ 4)
IsSmallOp (op.Rebuild stripe) = ⊥
IsSmallOp (op.Sync stripe) = ⊥

-- by the library's graph
abbrev pub IsSmall : Item → Type 0
IsSmall (item.Run op None) = IsSmallOp op
IsSmall (item.Run op (Some graph)) = ⊥
IsSmall (item.Fail column) = ⊥

-- a client's items
abbrev pub AreSmall : ItemList → Type 0
AreSmall items = (length items.items ≤ 4096) × All IsSmall items.items

module _ {L D : Type 0} (lay : LayoutGhosts L) (disk : DiskGhosts D) where
  -- the core is steady, and no job is out
  abbrev pub IsServable : Array L D → Type 0
  IsServable core = IsSteady lay disk core × NoneOut core.clients
