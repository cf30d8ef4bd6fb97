use Rattle.std.proofs.Common.{◌≡◌, drop, map}
use Rattle.item_list.specs.ItemList.{ItemList}
use Rattle.raid_script.specs.Asked.{seen}
use Rattle.top_join.specs.Steps.{spans_in}
use Rattle.top_join.proofs.written.patches_in.Given as goal

-- the item is one of a client that is left, if there is one
abbrev pub invariant-loop-items : goal.invariant-loop-items
invariant-loop-items l =
    spans_in l.graph (map (λ (row : ItemList). map seen row.items) l.clients)
    ≡ spans_in l.graph (map (λ (row : ItemList). map seen row.items) (drop l.items-index l.clients))
