use Rattle.top_close.proofs.LackingLaws.{loss_lacks}
use Rattle.top_close.proofs.laws.both_columns_of_a_loss_lack_a_unit.Goals as goal

pub returns : goal.returns
returns c = loss_lacks
