use Rattle.std.proofs.Common.{[]}
use Rattle.std.specs.Prelude.{All, map}
use Rattle.std.proofs.lemmas.List.Elements.{All-cons, All-nil}
use Rattle.item_list.specs.ItemList.{ItemList}
use Rattle.raid_script.specs.Asked.{seen}
use Rattle.top_bound.specs.Bound.{MayBeAsked}
use Rattle.duty_tests.proofs.bounds.fits.Goals as goal

abbrev AreAsked : ItemList → Type 0
AreAsked items = All MayBeAsked (map seen items.items)

pub trace_fits-requires-clause-asked : goal.trace_fits-requires-clause-asked
trace_fits-requires-clause-asked g c =
    All-cons AreAsked c.loop-i-2.row [] (c.are_asked.ensures c.if-not-are_asked.false) (All-nil AreAsked)
