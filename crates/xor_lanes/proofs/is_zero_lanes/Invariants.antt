use Rattle.std.proofs.Common.{◌*◌}
use Rattle.xor_lanes.specs.Bytes.{IsZeroBelow}
use Rattle.xor_lanes.proofs.is_zero_lanes.Given as goal

abbrev pub invariant-loop-lane : goal.invariant-loop-lane
invariant-loop-lane l = IsZeroBelow l.bytes (l.lane * 32)
