use Rattle.std.proofs.Common.{◌≡◌, ◌≤◌, ◌+◌, ◌*◌, length, take, drop}
use Rattle.raid_script.specs.Replies.{row_sectors}
use Rattle.raid_script.specs.Summary.{row_sum}
use Rattle.raid_script.specs.Steps.{place_sum}
use Rattle.raid_script.proofs.Printed.{from_sum}
use Rattle.raid_script.proofs.sums.sum_row.Given as goal

-- the sum so far, with that of the items that are left, is the whole
abbrev pub invariant-loop-i : goal.invariant-loop-i
invariant-loop-i l = record {
  whole : l.sum + from_sum (place_sum l.items.items l.replies (drop (512 * l.from) l.sectors)) l.i (length l.items.items) ≡ row_sum l.items.items l.replies (drop (512 * l.from) l.sectors);
  place : l.at ≡ row_sectors (take l.i l.items.items);
  small : l.sum ≤ 130560 * l.at;
}
