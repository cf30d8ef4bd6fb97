use Rattle.std.proofs.Common.{◌≤◌, ◌-◌}
use Rattle.blk_plain.specs.Plain.{is_in_some, spans_of}
use Rattle.lay_core.specs.Layout.{blocks_in}
use Rattle.lay_core.proofs.Walked.{Passed}
use Rattle.lay_core.proofs.Counted.{IsCounted}
use Rattle.lay_core.proofs.joint.count_all.Given as goal

-- the stripes of the blocks before `at` are counted, and each span that begins before it ends there at the latest
abbrev pub invariant-loop-span : goal.invariant-loop-span
invariant-loop-span g l = record {
  counted : IsCounted (g.L.Layout.shape l.layout) (is_in_some (spans_of l.patches)) l.at l.next l.count;
  passed : Passed (spans_of l.patches) l.at;
  inside : l.at ≤ blocks_in (g.L.Layout.shape l.layout);
}

abbrev pub decreases-loop-span : goal.decreases-loop-span
decreases-loop-span g l = blocks_in (g.L.Layout.shape l.layout) - l.at
