use Rattle.std.proofs.Common.{List, ◌≤◌, sym, subst, length}
use Rattle.item_list.specs.ItemList.{ItemList}
use Rattle.eng_log.specs.Laid.{items_before, sectors_before}
use Rattle.array_tests.proofs.SmallSetups.{few-items, few-sectors}
use Rattle.array_tests.proofs.tests.opening.opened.Goals as goal

pub open-requires-clause-items : goal.open-requires-clause-items
open-requires-clause-items g c =
    subst (λ (l : List ItemList). items_before l 16 ≤ 65536) (sym c.deref.ensures.value)
    (few-items (g.L.Layout.shape c.args.setup.layout) (length c.args.setup.graphs.items) c.args.setup.clients.items (c.is_setup.ensures.scripts c.if-not-is_setup.false))

pub open-requires-clause-sectors : goal.open-requires-clause-sectors
open-requires-clause-sectors g c =
    subst (λ (l : List ItemList). sectors_before l 16 ≤ 262144) (sym c.deref.ensures.value)
    (few-sectors (g.L.Layout.shape c.args.setup.layout) (length c.args.setup.graphs.items) c.args.setup.clients.items (c.is_setup.ensures.scripts c.if-not-is_setup.false))

pub open-requires-2-clause-setup : goal.open-requires-2-clause-setup
open-requires-2-clause-setup g c = c.is_setup.ensures.setup c.if-not-is_setup.false

pub returns-in-Ok-clause-own : goal.returns-in-Ok-clause-own
returns-in-Ok-clause-own g c = c.is_setup.ensures.own c.if-not-is_setup.false
