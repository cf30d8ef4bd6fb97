use Rattle.std.proofs.Common.{◌∙◌}
use Rattle.top_open.proofs.Columns.{held_devices}
use Rattle.top_open.proofs.Filled.{live, newest-is, was}
use Rattle.top_open.proofs.laws.labelled_devices_are_read.Goals as goal

pub returns : goal.returns
returns c = λ q p present sizes fronts o h l is i d at.
    let w = was q p present sizes fronts o h in
    held_devices q p present sizes fronts w.judged w.is l (newest-is q p present sizes fronts o h ∙ is) i d (live q p present sizes fronts o h i d at)
