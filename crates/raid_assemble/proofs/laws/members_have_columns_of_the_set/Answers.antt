use Rattle.raid_assemble.proofs.Ranks.{has_column}
use Rattle.raid_assemble.proofs.laws.members_have_columns_of_the_set.Goals as goal

pub returns : goal.returns
returns c = λ labels sets places i set column d x group within member. has_column labels sets places group i set column d x within member
