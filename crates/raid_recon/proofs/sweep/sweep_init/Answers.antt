use Rattle.std.proofs.Common.{refl}
use Rattle.raid_recon.proofs.sweep.sweep_init.Goals as goal

pub returns-clause-in_sync : goal.returns-clause-in_sync
returns-clause-in_sync g c = c.sweep.ensures.in_sync refl
