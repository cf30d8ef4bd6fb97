use Rattle.std.proofs.Common.{◌≡◌, ◌≤◌, ◌+◌, ◌*◌, length}
use Rattle.raid_script.specs.Replies.{sectors_before}
use Rattle.raid_script.specs.Summary.{all_sum}
use Rattle.raid_script.specs.Steps.{client_sum}
use Rattle.raid_script.proofs.Printed.{from_sum}
use Rattle.raid_script.proofs.sums.sum_all.Given as goal

-- the sum so far, with that of the clients that are left, is the whole
abbrev pub invariant-loop-client : goal.invariant-loop-client
invariant-loop-client l = record {
  whole : l.sum + from_sum (client_sum l.clients l.replies l.sectors) l.client (length l.clients) ≡ all_sum l.clients l.replies l.sectors;
  place : l.at ≡ sectors_before l.clients l.client;
  small : l.sum ≤ 130560 * l.at;
}
