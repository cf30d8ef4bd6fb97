use Rattle.std.proofs.Common.{◌<◌, ℕ}
use Rattle.act_tests.specs.ActSamples.{FitsAt}
use Rattle.act_tests.proofs.acts.asked.can_act.Given as goal

-- the columns so far fit
abbrev pub invariant-loop-c : goal.invariant-loop-c
invariant-loop-c g l = (k : ℕ) → k < l.c → FitsAt g.D.Disk (g.L.Layout.shape l.layout) l.columns l.devices k
