-- The items that are handed in.
use Rattle.std.specs.Prelude.{ℕ, List, [], Option, Some, None, slice_get}
use Rattle.eng_world.specs.declared.item.Item.{Item}
use Rattle.item_list.specs.ItemList.{ItemList}

abbrev pub items_in : Option ItemList → List Item
items_in None = []
items_in (Some items) = items.items

-- the items of the client of this number, none past the last
abbrev pub items_at : List ItemList → ℕ → List Item
items_at clients c = items_in (slice_get clients c)
