use Rattle.std.proofs.Common.{◌*◌, ◌+◌, arith}
use Rattle.xor_lanes.proofs.Vectors.{cleared_more}
use Rattle.xor_lanes.proofs.clear_lanes.Goals as goal

pub loop-lane-preserved : goal.loop-lane-preserved
loop-lane-preserved c = rw c.clear_lane.ensures (cleared_more c.loop-lane.to (c.loop-lane.lane * 32) ((c.loop-lane.lane + 1) * 32) (omega arith) (omega arith) c.loop-lane.invariant)
