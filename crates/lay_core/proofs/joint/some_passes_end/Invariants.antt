use Rattle.std.proofs.Common.{take, ◌<◌, ◌+◌}
use Rattle.std.specs.Prelude.{All}
use Rattle.blk_plain.specs.Plain.{spans_of}
use Rattle.lay_core.proofs.joint.some_passes_end.Given as goal

-- none of the spans so far
abbrev pub invariant-loop-i : goal.invariant-loop-i
invariant-loop-i l = All (λ s. l.blocks < s.first + s.count → ⊥) (take l.i (spans_of l.patches))
