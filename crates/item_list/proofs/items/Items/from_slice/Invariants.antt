use Rattle.std.proofs.Common.{◌≡◌, take}
use Rattle.item_list.proofs.items.Items.from_slice.Given as goal

-- those so far are listed
abbrev pub invariant-loop-item : goal.invariant-loop-item
invariant-loop-item l = l.list.items ≡ take l.item-index l.items
