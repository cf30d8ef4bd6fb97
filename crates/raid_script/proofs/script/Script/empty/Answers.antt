use Rattle.std.proofs.Common.{◌≡◌, ◌∙◌, ℕ, List, [], map, sym, ap, arith}
use Rattle.std.proofs.lemmas.List.{map_push}
use Rattle.eng_world.specs.declared.item.Item.{Item}
use Rattle.raid_script.specs.Asked.{Asked, Scripted, by_first, joins_of, seen}
use Rattle.raid_script.specs.Steps.{asked_by}
use Rattle.raid_script.specs.declared.join.Join.{Join}
use Rattle.raid_script.proofs.ByClient.{by_first_more, by_first_none}
use Rattle.raid_script.proofs.script.Script.empty.Goals as goal

pub loop-init : goal.loop-init
loop-init c = rw c.in_ok-clients.ensures.items (sym (by_first_none []))

pub loop-preserved : goal.loop-preserved
unfolding asked_by
loop-preserved c =
    let none : map seen c.new.result.items ≡ asked_by [] c.loop.counter = ap (λ (xs : _). map {A = Item} seen xs) c.new.ensures in
    rw (c.in_ok-push.ensures.items, map_push (λ items. map seen items.items) c.loop.clients.items c.new.result, c.loop.invariant, none) (sym (by_first_more c.loop.counter []))

abbrev script_with : List (List Asked) → List Join → Scripted
script_with rows joins = record { clients = rows; joins = joins }

pub returns : goal.returns
unfolding joins_of
returns c =
    let all : c.loop.counter ≡ 16 = (let a = c.loop-test.false in let b = c.loop.auto.counter-end in omega (arith, a, b)) in
    let rows = c.loop.invariant ∙ ap (λ (n : ℕ). by_first n []) all in
    ap (λ (cs : List (List Asked)). script_with cs c.new-2.result.items) rows ∙ ap (λ (js : List Join). script_with (by_first 16 []) js) c.new-2.ensures.items
