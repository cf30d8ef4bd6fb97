use Rattle.std.proofs.Common.{◌≡◌, ◌≤◌, ◌*◌, length, take}
use Rattle.std.specs.Prelude.{sum_by}
use Rattle.item_list.specs.ItemList.{ItemList}
use Rattle.raid_script.proofs.sums.count_items.Given as goal

-- the sum so far
abbrev pub invariant-loop-row : goal.invariant-loop-row
invariant-loop-row l = record {
  sum : l.total ≡ sum_by (λ (row : ItemList). length row.items) (take l.row-index l.clients);
  small : l.total ≤ 18446744073709551615 * l.row-index;
}
