use Rattle.eng_cols.specs.Cols.{is_set_filling}
use Rattle.eng_cols.proofs.Fewer.{set-read}
use Rattle.eng_cols.proofs.Lists.{count_at_most}
use Rattle.eng_cols.proofs.laws.a_set_column_is_read_again.Goals as goal

pub returns : goal.returns
returns c = λ y columns k device done few is many. set-read y columns k device done (count_at_most is_set_filling columns few) is many
