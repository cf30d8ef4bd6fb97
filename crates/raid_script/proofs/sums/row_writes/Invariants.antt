use Rattle.std.proofs.Common.{◌≡◌, ◌≤◌, ◌*◌, take}
use Rattle.std.specs.Prelude.{sum_by}
use Rattle.raid_script.specs.Summary.{item_writes}
use Rattle.raid_script.proofs.sums.row_writes.Given as goal

-- the sum so far
abbrev pub invariant-loop-at : goal.invariant-loop-at
invariant-loop-at l = record {
  sum : l.total ≡ sum_by item_writes (take l.at l.items.items);
  small : l.total ≤ 34359738360 * l.at;
}
