use Rattle.std.proofs.Common.{◌≡◌, length}
use Rattle.raid_text.specs.Seen.{left, line_count}
use Rattle.raid_text.specs.Text.{lines_in, raw_lines}
use Rattle.graph_text.specs.Format.{after_lines}
use Rattle.graph_text.specs.Steps.{nothing_read}
use Rattle.graph_text.proofs.reader.read_graphs.Given as goal

abbrev pub decreases-loop-line : goal.decreases-loop-line
decreases-loop-line l = length (left l.lines)

abbrev pub invariant-loop-line : goal.invariant-loop-line
invariant-loop-line l = record {
  read : after_lines l.reader (left l.lines) ≡ after_lines nothing_read (lines_in l.text);
  count : line_count l.lines ≡ length (raw_lines l.text);
}
