use Rattle.std.proofs.Common.{◌≡◌}
use Rattle.raid_map.specs.Asking.{MarksAlso}
use Rattle.raid_map.proofs.Spans.{FirstOnes}
use Rattle.raid_map.proofs.asking.mark_stripes.Given as goal

-- the regions of the stripes so far are marked
abbrev pub invariant-loop-i : goal.invariant-loop-i
invariant-loop-i l = MarksAlso (FirstOnes (λ x s. s ≡ x) l.stripes l.i) l.fn.map l.map
