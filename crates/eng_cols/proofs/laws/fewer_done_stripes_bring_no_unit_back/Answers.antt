use Rattle.eng_cols.specs.Cols.{is_set_filling}
use Rattle.eng_cols.proofs.Fewer.{none-back, read-fewer}
use Rattle.eng_cols.proofs.Lists.{count_at_most}
use Rattle.eng_cols.proofs.laws.fewer_done_stripes_bring_no_unit_back.Goals as goal

pub returns-clause-units : goal.returns-clause-units
returns-clause-units c = λ y old new s i fewer sw iw. none-back y old new fewer s i sw iw

pub returns-clause-read : goal.returns-clause-read
returns-clause-read c = λ y cols kept read few. read-fewer y cols kept read (count_at_most is_set_filling kept few)
