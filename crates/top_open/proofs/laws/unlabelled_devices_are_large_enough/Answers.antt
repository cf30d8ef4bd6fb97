use Rattle.std.proofs.Common.{◌≤◌, ◌∙◌, subst}
use Rattle.std.specs.Prelude.{slice_index}
use Rattle.top_open.specs.Plan.{sectors_for}
use Rattle.top_open.proofs.Filled.{live, newest-is, rows-are, was}
use Rattle.top_open.proofs.LargeEnough.{large_unlabelled}
use Rattle.top_open.proofs.laws.unlabelled_devices_are_large_enough.Goals as goal

pub returns : goal.returns
returns c = λ q p present sizes fronts o plan h none i d at.
    let w = was q p present sizes fronts o h in
    subst (λ n. sectors_for p n ≤ slice_index sizes d) (rows-are q p present sizes fronts o h) (large_unlabelled q p present sizes fronts w.judged plan w.is (newest-is q p present sizes fronts o h ∙ none) i d (live q p present sizes fronts o h i d at))
