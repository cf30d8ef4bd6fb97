-- Rebuilds that are listed.
use Rattle.std.specs.Prelude.{ℕ, List, None}
use Rattle.blk_plain.specs.declared.op.Op.TheVariants as op
use Rattle.eng_world.specs.declared.item.Item.{Item}
use Rattle.eng_world.specs.declared.item.Item.TheVariants as item

-- those that are listed so far, and for how many there is room
pub record Listing : Type 0 where
  pub items : List Item
  pub room : ℕ

abbrev pub rebuild : ℕ → Item
rebuild s = item.Run (op.Rebuild s) None
