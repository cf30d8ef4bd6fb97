use Rattle.std.proofs.Common.{◌*◌, ◌+◌, arith}
use Rattle.xor_lanes.proofs.Vectors.{summed_more}
use Rattle.xor_lanes.proofs.xor_lanes.Goals as goal

pub loop-lane-preserved : goal.loop-lane-preserved
loop-lane-preserved c = rw c.xor_lane.ensures (summed_more c.args.to.now c.args.from.now c.loop-lane.to (c.loop-lane.lane * 32) ((c.loop-lane.lane + 1) * 32) (omega arith) (omega arith) (omega arith) c.loop-lane.invariant)
