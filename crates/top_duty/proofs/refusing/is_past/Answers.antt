use Rattle.std.proofs.Common.{List, ◌+◌, length, map, subst, sym}
use Rattle.std.specs.Prelude.{All}
use Rattle.item_list.specs.ItemList.{ItemList}
use Rattle.raid_script.specs.Asked.{seen}
use Rattle.top_bound.specs.Bound.{MayBeAsked}
use Rattle.top_bound.proofs.Patched.{rows-asked}
use Rattle.top_duty.proofs.refusing.is_past.Goals as goal

pub trace_fits-requires-clause-asked : goal.trace_fits-requires-clause-asked
trace_fits-requires-clause-asked g c =
    let a = c.args.asked.now in
    subst (λ (l : List ItemList). All (λ (row : ItemList). All MayBeAsked (map seen row.items)) l) (sym c.deref.ensures.value)
    (rows-asked a.conf.columns (length a.book + length a.joins.items) a.clients.items c.requires.asked)
