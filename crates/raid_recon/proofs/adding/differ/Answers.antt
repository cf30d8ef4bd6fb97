use Rattle.raid_recon.proofs.Differing.{differ-by}
use Rattle.raid_recon.proofs.adding.differ.Goals as goal

pub returns : goal.returns
returns c = differ-by c.are_equal.result c.args.one.now c.args.other.now c.requires c.are_equal.ensures
