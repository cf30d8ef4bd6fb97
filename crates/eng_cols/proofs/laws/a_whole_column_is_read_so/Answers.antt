use Rattle.eng_cols.proofs.Fewer.{leading-few, leads-whole, whole-leads}
use Rattle.eng_cols.proofs.laws.a_whole_column_is_read_so.Goals as goal

pub returns-clause-whole : goal.returns-clause-whole
returns-clause-whole c = λ y cols k. (whole-leads y cols k, leads-whole y cols k)

pub returns-clause-few : goal.returns-clause-few
returns-clause-few c = leading-few
