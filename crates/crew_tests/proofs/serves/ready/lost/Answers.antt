use Rattle.std.proofs.Common.{refl}
use Rattle.crew_tests.proofs.Setups.{dead-ready}
use Rattle.crew_tests.proofs.serves.ready.lost.Goals as goal

pub returns : goal.returns
returns c = dead-ready _ _ _ c.args.first c.args.second c.in-Ok.ensures.made c.in_ok-devices.ensures c.new-3.ensures.items refl c.in_ok-columns.ensures.items c.new-2.ensures.items
