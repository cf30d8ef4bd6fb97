use Rattle.raid_script.proofs.OwnItems.{own_items}
use Rattle.raid_script.proofs.laws.own_items_touch_their_share.Goals as goal

pub returns : goal.returns
returns c = own_items
