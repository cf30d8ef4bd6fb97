use Rattle.std.proofs.Common.{◌≡◌, ◌≤◌, length, map}
use Rattle.raid_text.specs.Seen.{left}
use Rattle.top_sim.specs.Steps.{seen}
use Rattle.top_sim.specs.Format.{requests_behind}
use Rattle.top_sim.proofs.LinesInTurn.{with_front}
use Rattle.top_sim.proofs.RequestsInTurn.{AreFrom}
use Rattle.top_sim.proofs.requests.read_requests.Given as goal

abbrev pub decreases-loop-line : goal.decreases-loop-line
decreases-loop-line l = length (left l.lines)

-- what the lines so far and those that are left give together is what all give
abbrev pub invariant-loop-line : goal.invariant-loop-line
invariant-loop-line l = record {
  told : with_front (map seen l.requests.items)
      (requests_behind l.sectors l.low (length l.requests.items) l.read (left l.lines))
      ≡ requests_behind l.sectors 0 0 0 (left l.fn.lines);
  bound : l.read ≤ 262144;
  so_far : AreFrom l.sectors l.low l.requests.items;
}
