use Rattle.std.proofs.Common.{subst}
use Rattle.top_open.specs.Plan.{AreWholeTables}
use Rattle.top_open.proofs.Filled.{rows-are, was}
use Rattle.top_open.proofs.WholeTables.{whole_tables}
use Rattle.top_open.proofs.laws.rows_are_whole_tables.Goals as goal

pub returns : goal.returns
returns c = λ q p present sizes fronts o plan most h.
    let w = was q p present sizes fronts o h in
    subst (AreWholeTables p) (rows-are q p present sizes fronts o h) (whole_tables q p present sizes fronts w.judged plan most w.is)
