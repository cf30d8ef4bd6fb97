use Rattle.item_list.specs.ItemList.{ItemList}
use Rattle.raid_map.specs.Asking.{file_of, SomeMayWrite, MarksAlso}
use Rattle.raid_map.proofs.Spans.{FirstOnes}
use Rattle.raid_map.proofs.asking.mark_script.Given as goal

-- the regions of the clients so far are marked
abbrev pub invariant-loop-c : goal.invariant-loop-c
invariant-loop-c g l = MarksAlso (FirstOnes (λ (v : ItemList). SomeMayWrite (g.L.Layout.shape l.layout) (file_of l.graphs) v.items) l.clients l.c) l.fn.map l.map
