use Rattle.std.proofs.Common.{◌≤◌, List, sym, subst}
use Rattle.item_list.specs.ItemList.{ItemList}
use Rattle.eng_log.specs.Laid.{items_before, sectors_before}
use Rattle.crew_tests.proofs.Trials.{items-few, sectors-few, is-setup}
use Rattle.crew_tests.proofs.crews.opened.opened.Goals as goal

pub open-requires-clause-items : goal.open-requires-clause-items
open-requires-clause-items g c = subst (λ (l : List ItemList). items_before l 16 ≤ 65536) (sym c.as_slice.ensures.value) (items-few c.args.clients.items c.requires.small)

pub open-requires-clause-sectors : goal.open-requires-clause-sectors
open-requires-clause-sectors g c = subst (λ (l : List ItemList). sectors_before l 16 ≤ 262144) (sym c.as_slice.ensures.value) (sectors-few c.args.clients.items c.requires.small)

pub open-requires-2-clause-setup : goal.open-requires-2-clause-setup
open-requires-2-clause-setup g c = is-setup _ g.D.Disk _ c.args.first c.args.second c.in-Ok.ensures.made c.in_ok-columns.ensures.items c.in_ok-devices.ensures c.requires.first c.requires.second c.requires.small c.new-2.ensures.items
