use Rattle.top_rounds.specs.Passes.{AreLabelled}
use Rattle.top_rounds.proofs.pass.write_all.Given as goal

-- the columns so far have their labels
abbrev pub invariant-loop-column : goal.invariant-loop-column
invariant-loop-column g l = AreLabelled g.D.Disk l.column l.label l.fn.columns l.columns l.fn.devices l.devices
