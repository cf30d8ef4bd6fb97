use Rattle.std.proofs.Common.{◌≡◌, ◌∙◌, List, [], ◌∷◌, ◌++◌, map, get_or, set, sym, ap}
use Rattle.std.proofs.lemmas.List.{map-set, get_or-map}
use Rattle.item_list.specs.ItemList.{ItemList}
use Rattle.raid_script.specs.Asked.{Asked, seen}
use Rattle.raid_script.specs.Steps.{seen_said}
use Rattle.raid_script.proofs.script.push_item.Goals as goal

pub returns : goal.returns
returns c =
    let rows = c.args.clients.now.items in
    let k = c.args.client in
    let asked = seen_said c.args.room.now c.args.said in
    let old = c.index_mut.result.now in
    let new = c.push_said.new.items in
    let f = λ (row : ItemList). map seen row.items in
    let at : old ≡ get_or rows k old = c.index_mut.ensures.value in
    let one : f new ≡ f old ++ asked ∷ [] = c.in_ok-push_said.ensures in
    let row : get_or (map f rows) k [] ≡ f old = get_or-map f rows k old [] c.requires ∙ ap f (sym at) in
    map-set f rows k new ∙ ap (λ (x : List Asked). set (map f rows) k x) (one ∙ ap (λ (x : List Asked). x ++ asked ∷ []) (sym row))
