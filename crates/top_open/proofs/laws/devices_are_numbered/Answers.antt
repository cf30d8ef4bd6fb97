use Rattle.top_open.proofs.Columns.{numbered_devices}
use Rattle.top_open.proofs.Filled.{live, was}
use Rattle.top_open.proofs.laws.devices_are_numbered.Goals as goal

pub returns : goal.returns
returns c = λ q p present sizes fronts o h i d at.
    let w = was q p present sizes fronts o h in
    numbered_devices q p present sizes fronts w.judged w.is i d (live q p present sizes fronts o h i d at)
