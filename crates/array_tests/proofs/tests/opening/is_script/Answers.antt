use Rattle.std.proofs.Common.{List, sym, subst, arith}
use Rattle.std.specs.Prelude.{All}
use Rattle.std.proofs.lemmas.List.{take_all}
use Rattle.std.proofs.lemmas.List.Elements.{All-more}
use Rattle.std.proofs.lemmas.Option.{get_or_from_slice_get, slice_get_within}
use Rattle.eng_world.specs.declared.item.Item.{Item}
use Rattle.array_tests.specs.Small.{IsSmall}
use Rattle.array_tests.proofs.tests.opening.is_script.Goals as goal

pub loop-at-preserved : goal.loop-at-preserved
loop-at-preserved g c =
    let P = IsSmall (g.L.Layout.shape c.args.layout.now) c.args.graphs in
    let items = c.args.items.now.items in
    let x = c.get.result in
    All-more P items c.loop-at.at x (slice_get_within c.args.items.now.items c.loop-at.at c.get.result c.get.ensures) c.loop-at.invariant
    (subst P (sym (get_or_from_slice_get items c.loop-at.at x x c.get.ensures)) (c.is_small.ensures c.if-not-is_small.false))

pub returns : goal.returns
returns g c = λ is. record {
  few = let l = c.len.ensures in let f = c.if-len-gt16.false in omega (arith, l, f);
  small = subst (λ (l : List Item). All (IsSmall (g.L.Layout.shape c.args.layout.now) c.args.graphs) l)
      (take_all c.loop-at.at c.args.items.now.items (omega (arith, c.loop-at-test.false, c.len-at-end.ensures))) c.loop-at.invariant;
}
