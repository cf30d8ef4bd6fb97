use Rattle.std.proofs.Common.{List, sym, subst, arith}
use Rattle.std.specs.Prelude.{All}
use Rattle.std.proofs.lemmas.List.{take_all}
use Rattle.std.proofs.lemmas.List.Elements.{All-map, All-more}
use Rattle.std.proofs.lemmas.Option.{get_or_from_slice_get, slice_get_within}
use Rattle.eng_world.specs.declared.item.Item.{Item}
use Rattle.raid_script.specs.Asked.{seen}
use Rattle.top_bound.specs.Bound.{MayBeAsked}
use Rattle.duty_tests.proofs.bounds.are_asked.Goals as goal

abbrev May : Item → Type 0
May i = MayBeAsked (seen i)

pub loop-at-preserved : goal.loop-at-preserved
loop-at-preserved c =
    let items = c.args.items.now.items in
    let x = c.get.result in
    All-more May items c.loop-at.at x (slice_get_within c.args.items.now.items c.loop-at.at c.get.result c.get.ensures) c.loop-at.invariant
    (subst May (sym (get_or_from_slice_get items c.loop-at.at x x c.get.ensures)) (5, 1, c.is_asked.ensures c.if-not-is_asked.false))

pub returns : goal.returns
returns c = λ is.
    let items = c.args.items.now.items in
    All-map MayBeAsked seen items (subst (λ (l : List Item). All May l) (take_all c.loop-at.at items (omega (arith, c.loop-at-test.false, c.len-at-end.ensures))) c.loop-at.invariant)
