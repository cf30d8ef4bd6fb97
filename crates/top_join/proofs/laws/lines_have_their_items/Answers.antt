use Rattle.top_join.proofs.OneItem.{line_has_its_item}
use Rattle.top_join.proofs.laws.lines_have_their_items.Goals as goal

pub returns : goal.returns
returns c = line_has_its_item
