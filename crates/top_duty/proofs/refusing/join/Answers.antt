use Rattle.std.proofs.Common.{◌≤◌, ◌+◌, List, length, map, Ok, subst, sym}
use Rattle.std.specs.Prelude.{All}
use Rattle.item_list.specs.ItemList.{ItemList}
use Rattle.raid_script.specs.declared.join.Join.{Join}
use Rattle.raid_script.specs.Asked.{IsJoinOf, seen}
use Rattle.top_bay.specs.Views.{asked_seen}
use Rattle.top_bound.specs.Bound.{MayBeAsked}
use Rattle.top_bound.proofs.Patched.{rows-asked}
use Rattle.top_join.specs.Joining.{AreJoined}
use Rattle.top_duty.specs.Views.{views_of}
use Rattle.top_duty.proofs.refusing.join.Goals as goal

pub join_all-requires-clause-few : goal.join_all-requires-clause-few
join_all-requires-clause-few g c = subst (λ (js : List Join). length js ≤ 64) (sym c.deref-2.ensures.value) c.requires.joins.few

pub join_all-requires-clause-joins : goal.join_all-requires-clause-joins
join_all-requires-clause-joins g c = subst (λ (js : List Join). All (IsJoinOf (length c.args.asked.now.book)) js) (sym c.deref-2.ensures.value) c.requires.joins.each

pub join_all-requires-clause-asked : goal.join_all-requires-clause-asked
join_all-requires-clause-asked g c =
    let a = c.args.asked.now in
    subst (λ (l : List ItemList). All (λ (row : ItemList). All MayBeAsked (map seen row.items)) l) (sym c.deref.ensures.value)
    (rows-asked a.conf.columns (length a.book + length a.joins.items) a.clients.items c.requires.asked)

pub returns-in-Ok-clause-joined : goal.returns-in-Ok-clause-joined
returns-in-Ok-clause-joined g c =
    let y = g.L.Layout.shape c.args.layout.now in
    let k = asked_seen c.args.asked.now in
    let views = views_of c.in-Ok.joined.items in
    subst (λ (rows : List ItemList). AreJoined y k.book (map (λ (row : ItemList). map seen row.items) rows) (length k.book) k.joins (Ok views)) c.deref.ensures.value
    (subst (λ (js : List Join). AreJoined y k.book (map (λ (row : ItemList). map seen row.items) c.deref.result.now) (length k.book) js (Ok views)) c.deref-2.ensures.value c.in-Ok.ensures.joined)
