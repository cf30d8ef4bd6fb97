use Rattle.top_open.proofs.Filled.{filling}
use Rattle.top_open.proofs.laws.the_filling_column_is_the_newest_labels.Goals as goal

pub returns : goal.returns
returns c = filling
