use Rattle.std.proofs.Common.{◌<◌, ℕ}
use Rattle.act_tests.specs.RoundSamples.{FitsAt}
use Rattle.act_tests.proofs.rounds.fit.Given as goal

-- the columns so far fit
abbrev pub invariant-loop-c : goal.invariant-loop-c
invariant-loop-c g l = (k : ℕ) → k < l.c → FitsAt g.D.Disk l.columns l.devices k
