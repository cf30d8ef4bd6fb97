use Rattle.lay_decluster.proofs.Lowest.{lower_rows_are_taken, seats_are_free}
use Rattle.lay_decluster.proofs.laws.rows_are_the_lowest_free.Goals as goal

pub returns-clause-lower : goal.returns-clause-lower
returns-clause-lower c = lower_rows_are_taken

pub returns-clause-free : goal.returns-clause-free
returns-clause-free c = seats_are_free
