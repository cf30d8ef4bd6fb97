use Rattle.std.proofs.Common.{take}
use Rattle.blk_plain.specs.Plain.{spans_of}
use Rattle.lay_core.specs.Joined.{IsNext}
use Rattle.lay_core.proofs.joint.next_span.Given as goal

-- of the spans so far
abbrev pub invariant-loop-i : goal.invariant-loop-i
invariant-loop-i l = IsNext l.at (take l.i (spans_of l.patches)) l.next
