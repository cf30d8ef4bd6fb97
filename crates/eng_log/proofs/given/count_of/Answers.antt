use Rattle.std.proofs.Common.{◌∙◌, sym, ap, length, refl}
use Rattle.std.proofs.lemmas.Option.{slice_get_past, slice_get_read}
use Rattle.item_list.specs.ItemList.{ItemList}
use Rattle.eng_log.specs.Given.{items_in}
use Rattle.eng_log.proofs.given.count_of.Goals as goal

pub returns-in-Some : goal.returns-in-Some
returns-in-Some c =
    let there = slice_get_read c.args.clients.now (length c.args.clients.now) c.args.client c.in-Some.items.now refl c.in-Some.ensures.lookup.3.0 c.in-Some.ensures.lookup.1 in
    c.len.ensures ∙ ap (λ o. length (items_in o)) (sym there)

pub returns-in-None : goal.returns-in-None
returns-in-None c = ap (λ o. length (items_in o)) (sym (slice_get_past c.args.clients.now c.args.client c.in-None.ensures.lookup.3))
