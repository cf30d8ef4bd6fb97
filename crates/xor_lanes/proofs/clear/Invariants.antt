use Rattle.xor_lanes.specs.Bytes.{IsZeroBelow}
use Rattle.xor_lanes.proofs.clear.Given as goal

abbrev pub invariant-loop-k : goal.invariant-loop-k
invariant-loop-k l = IsZeroBelow l.to l.k
