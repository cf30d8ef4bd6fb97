use Rattle.std.proofs.Common.{◌*◌}
use Rattle.xor_lanes.specs.Bytes.{SumsBelow}
use Rattle.xor_lanes.proofs.xor_lanes.Given as goal

abbrev pub invariant-loop-lane : goal.invariant-loop-lane
invariant-loop-lane l = SumsBelow l.initial.to l.from l.to (l.lane * 32)
