use Rattle.raid_top.proofs.Consequences.{refused_changes_nothing}
use Rattle.raid_top.proofs.laws.what_is_refused_changes_nothing.Goals as goal

pub returns : goal.returns
returns g c = λ old new out_old out_new words answer. refused_changes_nothing _ _ _ _ _ _ _ _
