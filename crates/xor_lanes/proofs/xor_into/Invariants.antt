use Rattle.xor_lanes.specs.Bytes.{SumsBelow}
use Rattle.xor_lanes.proofs.xor_into.Given as goal

abbrev pub invariant-loop-k : goal.invariant-loop-k
invariant-loop-k l = SumsBelow l.fn.to l.from l.to l.k
