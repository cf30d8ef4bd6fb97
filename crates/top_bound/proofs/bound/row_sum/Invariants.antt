use Rattle.std.proofs.Common.{◌≡◌, ◌≤◌, ◌*◌, take}
use Rattle.std.specs.Prelude.{sum_by}
use Rattle.raid_script.specs.Asked.{seen}
use Rattle.top_bound.specs.Bound.{graphs_in, item_nodes, item_bound}
use Rattle.top_bound.proofs.bound.row_sum.Given as goal

-- the sum so far
abbrev pub invariant-loop-at : goal.invariant-loop-at
invariant-loop-at g l = record {
  sum : l.total ≡ sum_by (λ i. item_bound l.devices (item_nodes (g.L.Layout.shape l.layout) (graphs_in l.book l.joined) (seen i))) (take l.at l.items.items);
  small : l.total ≤ 70368744177664 * l.at;
}
