use Rattle.std.proofs.Common.{◌≡◌, ◌≤◌, ◌*◌, take, map}
use Rattle.std.specs.Prelude.{sum_by}
use Rattle.item_list.specs.ItemList.{ItemList}
use Rattle.raid_script.specs.Asked.{seen}
use Rattle.top_bound.specs.Bound.{graphs_in, row_sum}
use Rattle.top_bound.proofs.bound.trace_sum.Given as goal

-- the sum so far
abbrev pub invariant-loop-items : goal.invariant-loop-items
invariant-loop-items g l = record {
  sum : l.total ≡ sum_by (λ (row : ItemList). row_sum (g.L.Layout.shape l.layout) (graphs_in l.book l.joined) l.devices (map seen row.items)) (take l.items-index l.clients);
  small : l.total ≤ 1298074214633706907132624082305024 * l.items-index;
}
