use Rattle.std.proofs.Common.{◌∙◌, sym, arith}
use Rattle.std.proofs.lemmas.Nat.Bits.{bit_at-zero, same_from_bits}
use Rattle.eng_one.proofs.Sets.{filled-some}
use Rattle.eng_one.proofs.node_set.NodeSet.first_after.Goals as goal

pub unreachable-requires : goal.unreachable-requires
unreachable-requires c =
    let f = c.in-Some.ensures in
    filled-some c.self.inside.words c.self.inside.blocks c.in-Some.later c.self.invariant f.below f.set (same_from_bits _ 0 (λ i. c.in-None-first_bit.ensures i (omega arith) ∙ sym (bit_at-zero i)))
