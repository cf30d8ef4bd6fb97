use Rattle.std.proofs.Common.{◌≡◌, ◌≤◌, length}
use Rattle.raid_text.specs.Seen.{left}
use Rattle.top_scan.specs.List.{AreApart, names_behind}
use Rattle.top_scan.specs.Steps.{list_of}
use Rattle.top_scan.proofs.list.read_list.Given as goal

abbrev pub decreases-loop-line : goal.decreases-loop-line
decreases-loop-line l = length (left l.lines)

abbrev pub invariant-loop-line : goal.invariant-loop-line
invariant-loop-line l = record {
  told : names_behind l.names.items (left l.lines) ≡ list_of l.text;
  few : length l.names.items ≤ 1024;
  apart : AreApart l.names.items;
}
