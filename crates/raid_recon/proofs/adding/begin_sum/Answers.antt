use Rattle.std.proofs.Common.{◌∙◌}
use Rattle.raid_recon.proofs.Placed.{placed-one}
use Rattle.raid_recon.proofs.adding.begin_sum.Goals as goal

pub returns-clause-sums : goal.returns-clause-sums
returns-clause-sums c = λ j lt. c.copy_unit.ensures.bytes j lt ∙ placed-one c.args.ahead.now c.args.places.now j
