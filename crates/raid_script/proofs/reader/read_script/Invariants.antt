use Rattle.std.proofs.Common.{◌≤◌, length}
use Rattle.raid_text.specs.Seen.{left}
use Rattle.raid_script.proofs.RowsInTurn.{HasRead}
use Rattle.raid_script.proofs.reader.read_script.Given as goal

abbrev pub decreases-loop-line : goal.decreases-loop-line
decreases-loop-line l = length (left l.lines)

abbrev pub invariant-loop-line : goal.invariant-loop-line
invariant-loop-line l = record {
  read : HasRead l.book l.columns l.text l.script l.items l.sectors (left l.lines);
  bound : l.sectors ≤ 262144;
  joins : length l.script.joins ≤ 64;
}
