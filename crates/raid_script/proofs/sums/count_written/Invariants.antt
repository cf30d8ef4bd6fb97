use Rattle.std.proofs.Common.{◌≡◌, ◌≤◌, ◌*◌, take}
use Rattle.std.specs.Prelude.{sum_by}
use Rattle.item_list.specs.ItemList.{ItemList}
use Rattle.raid_script.specs.Steps.{row_writes}
use Rattle.raid_script.proofs.sums.count_written.Given as goal

-- the sum so far
abbrev pub invariant-loop-row : goal.invariant-loop-row
invariant-loop-row l = record {
  sum : l.total ≡ sum_by (λ (row : ItemList). row_writes row.items) (take l.row-index l.clients);
  small : l.total ≤ 633825300114114700748351602688 * l.row-index;
}
