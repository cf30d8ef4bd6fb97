use Rattle.std.proofs.Common.{◌*◌, ◌/◌, length, arith}
use Rattle.xor_lanes.proofs.Vectors.{zero_with_front}
use Rattle.xor_lanes.proofs.is_zero.Goals as goal

pub returns-then-is_zero_lanes : goal.returns-then-is_zero_lanes
returns-then-is_zero_lanes c =
    let bytes = c.args.bytes.now in
    let front = c.is_zero_lanes.ensures.0 c.if-is_zero_lanes.true in
    let both = zero_with_front bytes (length bytes / 32 * 32) (omega arith) front in
    (λ rest. both.0 (c.is_zero_rest.ensures.0 rest), λ whole. c.is_zero_rest.ensures.1 (both.1 whole))
