use Rattle.eng_plan.proofs.Pooling.{item-no-more, row-no-more, own-no-more}
use Rattle.eng_plan.proofs.pooled.leases_are_no_greater.Goals as goal

pub returns-clause-item : goal.returns-clause-item
returns-clause-item c = λ y law graphs i. item-no-more y law graphs i

pub returns-clause-row : goal.returns-clause-row
returns-clause-row c = λ y law graphs items n i at. row-no-more y law graphs items n i at

pub returns-clause-own : goal.returns-clause-own
returns-clause-own c = λ y law graphs stripe. own-no-more y law graphs stripe
