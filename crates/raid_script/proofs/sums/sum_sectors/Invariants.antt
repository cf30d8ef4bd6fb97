use Rattle.std.proofs.Common.{◌≡◌, ◌≤◌, ◌*◌}
use Rattle.raid_script.specs.Steps.{bytes_from, byte_sum}
use Rattle.raid_script.proofs.sums.sum_sectors.Given as goal

-- the sum so far
abbrev pub invariant-loop-i : goal.invariant-loop-i
invariant-loop-i l = record {
  sum : l.total ≡ byte_sum (bytes_from l.sectors l.from l.i);
  small : l.total ≤ 130560 * l.i;
}
