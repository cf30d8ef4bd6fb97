use Rattle.std.proofs.Common.{refl}
use Rattle.crew_tests.proofs.Setups.{live-ready}
use Rattle.crew_tests.proofs.serves.ready.ready.Goals as goal

pub returns : goal.returns
returns c = live-ready _ _ _ c.args.first c.args.second c.in-Ok.ensures.made c.in_ok-devices.ensures c.new-2.ensures.items refl c.in_ok-columns.ensures.items c.requires.first c.requires.second c.requires.few c.requires.small
