use Rattle.std.proofs.Common.{subst}
use Rattle.eng_cols.specs.Cols.{Columns}
use Rattle.eng_cols.specs.Lost.{NotLost}
use Rattle.crew_tests.proofs.arrays.judged.Goals as goal

pub returns-in-None-clause-kept : goal.returns-in-None-clause-kept
returns-in-None-clause-kept g c = subst (λ (v : Columns). NotLost (g.L.Layout.shape c.args.layout.now) v.states) c.set.ensures.columns c.in-None.ensures
