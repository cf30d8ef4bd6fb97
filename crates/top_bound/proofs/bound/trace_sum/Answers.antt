use Rattle.std.proofs.Common.{map, subst, sym}
use Rattle.std.specs.Prelude.{All}
use Rattle.item_list.specs.ItemList.{ItemList}
use Rattle.raid_script.specs.Asked.{seen}
use Rattle.top_bound.specs.Bound.{MayBeAsked}
use Rattle.top_bound.proofs.bound.trace_sum.Goals as goal

pub row_sum-total-requires-clause-asked : goal.row_sum-total-requires-clause-asked
row_sum-total-requires-clause-asked g c =
    subst (λ (row : ItemList). All MayBeAsked (map seen row.items)) (sym c.items-item.is)
    (c.requires.asked c.loop-items.items-index c.items-item.result c.loop-items-test.true)
