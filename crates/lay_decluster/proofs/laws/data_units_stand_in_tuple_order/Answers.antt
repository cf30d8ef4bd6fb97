use Rattle.lay_decluster.proofs.Lowest.{units_ascend, spared_ascend}
use Rattle.lay_decluster.proofs.laws.data_units_stand_in_tuple_order.Goals as goal

pub returns-clause-without_spare : goal.returns-clause-without_spare
returns-clause-without_spare c = units_ascend

pub returns-clause-with_spare : goal.returns-clause-with_spare
returns-clause-with_spare c = spared_ascend
