use Rattle.std.proofs.Common.{◌<◌, ℕ}
use Rattle.raid_recon.specs.Samples.{FitsAt}
use Rattle.recon_tests.proofs.asked.is_array.Given as goal

-- the columns so far fit
abbrev pub invariant-loop-c : goal.invariant-loop-c
invariant-loop-c g l = (k : ℕ) → k < l.c → FitsAt g.D.Disk (g.L.Layout.shape l.layout) l.columns l.devices k
