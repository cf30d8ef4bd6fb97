use Rattle.raid_map.specs.Asking.{file_of, MayWriteIn, MarksAlso}
use Rattle.raid_map.proofs.Spans.{FirstOnes}
use Rattle.raid_map.proofs.asking.mark_items.Given as goal

-- the regions of the items so far are marked
abbrev pub invariant-loop-i : goal.invariant-loop-i
invariant-loop-i g l = MarksAlso (FirstOnes (MayWriteIn (g.L.Layout.shape l.layout) (file_of l.graphs)) l.items.items l.i) l.fn.map l.map
