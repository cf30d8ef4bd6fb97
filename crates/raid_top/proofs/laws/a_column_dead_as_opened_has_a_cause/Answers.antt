use Rattle.raid_top.proofs.DeadActed.{dead_as_opened}
use Rattle.raid_top.proofs.DeadOpened.{dead_for}
use Rattle.raid_top.proofs.laws.a_column_dead_as_opened_has_a_cause.Goals as goal

pub returns-clause-opened : goal.returns-clause-opened
returns-clause-opened g c = λ k sizes fronts o opens column dead. dead_for k sizes fronts o opens column dead

pub returns-clause-acted : goal.returns-clause-acted
returns-clause-acted g c = λ old new. dead_as_opened _ _
