use Rattle.eng_cols.specs.Cols.{is_set_filling}
use Rattle.eng_cols.proofs.Fewer.{states-die}
use Rattle.eng_cols.proofs.Lists.{count_at_most}
use Rattle.eng_cols.proofs.laws.deaths_leave_the_others_set.Goals as goal

pub returns : goal.returns
returns c = λ y old new k die few. states-die y old new die (count_at_most is_set_filling old few) k
