use Rattle.std.proofs.Common.{take}
use Rattle.std.specs.Prelude.{All}
use Rattle.item_list.specs.ItemList.{ItemList}
use Rattle.array_tests.specs.Small.{IsScript}
use Rattle.array_tests.proofs.tests.opening.are_scripts.Given as goal

-- the clients so far have small scripts
abbrev pub invariant-loop-items : goal.invariant-loop-items
invariant-loop-items g l = All (λ (items : ItemList). IsScript (g.L.Layout.shape l.layout) l.graphs items.items) (take l.items-index l.clients)
