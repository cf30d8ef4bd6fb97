use Rattle.top_bound.proofs.Limits.{few-have-room}
use Rattle.top_bound.proofs.laws.few_items_have_room.Goals as goal

pub returns : goal.returns
returns c = few-have-room
