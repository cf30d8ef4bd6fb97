use Rattle.std.proofs.Common.{◌++◌, ◌∷◌, ◌∙◌, [], List, map, ap}
use Rattle.std.proofs.lemmas.List.{map_push}
use Rattle.std.proofs.lemmas.Result.{err_from_is_err_and}
use Rattle.eng_world.specs.declared.item.Item.{Item}
use Rattle.item_list.specs.declared.slot.Slot.{Slot}
use Rattle.item_list.specs.ItemList.{ItemList}
use Rattle.item_list.specs.Kept.{item_of}
use Rattle.item_list.proofs.Keeping.{same-items}
use Rattle.item_list.proofs.items.Items.push.Goals as goal

pub returns-in_err-slot-clause-unchanged : goal.returns-in_err-slot-clause-unchanged
returns-in_err-slot-clause-unchanged c =
    let p = err_from_is_err_and c.from_residual.result c.from_residual.ensures.1 in
    rw p.1 (same-items _ _ _ _ c.in_err-slot.ensures.longer c.in_err-slot.ensures.writes _ c.self.invariant ∙ ap (λ (l : ItemList). l.items) c.self.view_is)

pub returns-in_err-push-clause-unchanged : goal.returns-in_err-push-clause-unchanged
returns-in_err-push-clause-unchanged c =
    let p = err_from_is_err_and c.from_residual-in_err-push.result c.from_residual-in_err-push.ensures.1 in
    rw p.1 (ap (λ (slots : List Slot). map (item_of c.keep.new.longer.items c.keep.new.writes.items) slots) c.in_err-push.ensures.items
    ∙ (same-items _ _ _ _ c.in_ok-slot.ensures.longer c.in_ok-slot.ensures.writes _ c.self.invariant ∙ ap (λ (l : ItemList). l.items) c.self.view_is))

pub returns-clause-items : goal.returns-clause-items
returns-clause-items c =
    let kept = item_of c.keep.new.longer.items c.keep.new.writes.items in
    let slots = c.self.inside.slots.items in
    let before = same-items _ _ _ _ c.in_ok-slot.ensures.longer c.in_ok-slot.ensures.writes slots c.self.invariant ∙ ap (λ (l : ItemList). l.items) c.self.view_is in
    ap (λ (s : List Slot). map kept s) c.in_ok-push.ensures.items
    ∙ (map_push kept slots c.in_ok-slot.slot
    ∙ (ap (λ (l : List Item). l ++ kept c.in_ok-slot.slot ∷ []) before
    ∙ ap (λ (i : Item). c.args.self.now.items ++ i ∷ []) c.in_ok-slot.ensures.item))
