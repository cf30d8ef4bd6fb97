use Rattle.std.proofs.Common.{◌∙◌}
use Rattle.top_open.proofs.Filled.{newest-is, was}
use Rattle.top_open.proofs.Newest.{newest_may_follow}
use Rattle.top_open.proofs.laws.newest_labels_may_be_followed.Goals as goal

pub returns-clause-held : goal.returns-clause-held
returns-clause-held c = λ q p present sizes fronts o h l is.
    let w = was q p present sizes fronts o h in
    (newest_may_follow q p present sizes fronts w.judged w.is l (newest-is q p present sizes fronts o h ∙ is)).0

pub returns-clause-counter : goal.returns-clause-counter
returns-clause-counter c = λ q p present sizes fronts o h l is.
    let w = was q p present sizes fronts o h in
    (newest_may_follow q p present sizes fronts w.judged w.is l (newest-is q p present sizes fronts o h ∙ is)).1
