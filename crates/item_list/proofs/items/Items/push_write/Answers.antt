use Rattle.std.proofs.Common.{◌≡◌, ◌++◌, ◌∷◌, ◌∙◌, [], List, All, length, map, sym, ap, subst}
use Rattle.std.proofs.lemmas.List.{map_push}
use Rattle.std.proofs.lemmas.Result.{err_from_is_err_and}
use Rattle.eng_world.specs.declared.item.Item.{Item}
use Rattle.item_list.specs.declared.slot.Slot.{Slot}
use Rattle.item_list.specs.ItemList.{ItemList}
use Rattle.item_list.specs.Kept.{item_of, IsWithin}
use Rattle.item_list.proofs.Keeping.{keeps_same, same-items, within-push}
use Rattle.item_list.proofs.items.Items.push_write.Goals as goal

pub returns-in_err-slot-clause-unchanged : goal.returns-in_err-slot-clause-unchanged
returns-in_err-slot-clause-unchanged c =
    let p = err_from_is_err_and c.from_residual.result c.from_residual.ensures.1 in
    rw p.1 (same-items _ _ _ _ c.in_err-slot.ensures.others (keeps_same c.self.inside.writes.items) _ c.self.invariant ∙ ap (λ (l : ItemList). l.items) c.self.view_is)

pub returns-in_err-push-clause-unchanged : goal.returns-in_err-push-clause-unchanged
returns-in_err-push-clause-unchanged c =
    let p = err_from_is_err_and c.from_residual-in_err-push.result c.from_residual-in_err-push.ensures.1 in
    rw p.1 (ap (λ (slots : List Slot). map (item_of c.keep_write.new.longer.items c.self.inside.writes.items) slots) c.in_err-push.ensures.items
    ∙ (same-items _ _ _ _ c.in_ok-slot.ensures.others (keeps_same c.self.inside.writes.items) _ c.self.invariant ∙ ap (λ (l : ItemList). l.items) c.self.view_is))

pub invariant_of-self-2 : goal.invariant_of-self-2
invariant_of-self-2 c =
    let within = IsWithin (length c.keep_write.new.longer.items) (length c.self.inside.writes.items) in
    subst (All within) (sym c.in_ok-push.ensures.items)
    (within-push _ _ _ c.self.inside.slots.items c.in_ok-slot.slot c.in_ok-slot.ensures.others.longer c.self.invariant (c.in_ok-slot.ensures.within _))

pub returns-clause-items : goal.returns-clause-items
returns-clause-items c =
    let kept = item_of c.keep_write.new.longer.items c.self.inside.writes.items in
    let slots = c.self.inside.slots.items in
    let before = same-items _ _ _ _ c.in_ok-slot.ensures.others (keeps_same c.self.inside.writes.items) slots c.self.invariant ∙ ap (λ (l : ItemList). l.items) c.self.view_is in
    ap (λ (s : List Slot). map kept s) c.in_ok-push.ensures.items
    ∙ (map_push kept slots c.in_ok-slot.slot
    ∙ (ap (λ (l : List Item). l ++ kept c.in_ok-slot.slot ∷ []) before
    ∙ ap (λ (i : Item). c.args.self.now.items ++ i ∷ []) (c.in_ok-slot.ensures.item c.self.inside.writes.items)))
