use Rattle.std.proofs.Common.{◌-◌, ap, arith}
use Rattle.std.proofs.lemmas.Nat.{one_shl, pow_pos}
use Rattle.graph_lib.proofs.unit_set.low.Goals as goal

pub overflow_sub-result : goal.overflow_sub-result
overflow_sub-result c = let e = one_shl c.args.count 64 (omega arith) in let p = pow_pos c.args.count in omega arith

pub returns : goal.returns
returns c = ap (λ x. x - 1) (one_shl c.args.count 64 (omega arith))
