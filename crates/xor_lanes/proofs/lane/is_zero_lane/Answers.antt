use Rattle.xor_lanes.proofs.Vectors.{no_bit_where_zero}
use Rattle.xor_lanes.proofs.lane.is_zero_lane.Goals as goal

pub returns : goal.returns
returns c = no_bit_where_zero c.args.bytes.now c.args.at c.requires
