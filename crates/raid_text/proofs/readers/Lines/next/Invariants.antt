use Rattle.std.proofs.Common.{◌≡◌, length}
use Rattle.raid_text.specs.Seen.{line_count, left}
use Rattle.raid_text.proofs.readers.Lines.next.Given as goal

abbrev pub decreases-loop-line : goal.decreases-loop-line
decreases-loop-line l = length l.self.rest.now

abbrev pub invariant-loop-line : goal.invariant-loop-line
invariant-loop-line l = record {
  lines : left l.self ≡ left l.fn.self;
  total : line_count l.self ≡ line_count l.fn.self;
}
