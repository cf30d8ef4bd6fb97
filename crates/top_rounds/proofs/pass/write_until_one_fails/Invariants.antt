use Rattle.std.proofs.Common.{◌≡◌}
use Rattle.top_rounds.specs.Passes.{AreLabelled}
use Rattle.top_rounds.proofs.pass.write_until_one_fails.Given as goal

-- the columns so far have their labels, and none of them died
abbrev pub invariant-loop-column : goal.invariant-loop-column
invariant-loop-column g l = record {
  labelled : AreLabelled g.D.Disk l.column l.label l.fn.columns l.columns l.fn.devices l.devices;
  same : l.columns ≡ l.fn.columns;
}
