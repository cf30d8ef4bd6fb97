use Rattle.std.proofs.Common.{List, subst}
use Rattle.std.specs.Prelude.{All}
use Rattle.std.proofs.lemmas.List.{take_all}
use Rattle.std.proofs.lemmas.List.Elements.{All-more}
use Rattle.item_list.specs.ItemList.{ItemList}
use Rattle.array_tests.specs.Small.{IsScript}
use Rattle.array_tests.proofs.tests.opening.are_scripts.Goals as goal

pub loop-items-preserved : goal.loop-items-preserved
loop-items-preserved g c =
    let Q = IsScript (g.L.Layout.shape c.args.layout.now) c.args.graphs in
    All-more (λ (items : ItemList). Q items.items) c.args.clients.now c.loop-items.items-index c.items-item.result c.loop-items-test.true c.loop-items.invariant
    (subst (λ (items : ItemList). Q items.items) c.items-item.is (c.is_script.ensures c.if-not-is_script.false))

pub returns : goal.returns
returns g c = λ is. record {
  few = c.if-clients-gt16.false;
  each = subst (λ (l : List ItemList). All (λ (items : ItemList). IsScript (g.L.Layout.shape c.args.layout.now) c.args.graphs items.items) l) (take_all c.loop-items.items-index c.args.clients.now c.loop-items-test.false) c.loop-items.invariant;
}
