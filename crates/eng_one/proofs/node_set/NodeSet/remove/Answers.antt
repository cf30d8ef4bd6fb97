use Rattle.std.proofs.Common.{◌≢◌, ℕ, ◌<◌, ◌∙◌, ap, refl, sym, arith, inl, inr, slice_index_or}
use Rattle.std.specs.Prelude.{◌==◌, ◌/◌, ◌%◌}
use Rattle.std.specs.Int.{bit_at}
use Rattle.std.proofs.lemmas.Bool.{cases_eq, cond-true, cond-false, eq-eqb, ne_eqb}
use Rattle.std.proofs.lemmas.Nat.Bits.{bit_at-zero, same_from_bits}
use Rattle.eng_one.proofs.Sets.{word-set}
use Rattle.eng_one.proofs.node_set.NodeSet.remove.Goals as goal

pub invariant_of-self : goal.invariant_of-self
invariant_of-self c =
    let w = c.args.node / 64 in
    let v = c.without_bit-word.result in
    let below : w < 64 = omega (arith, c.requires) in
    word-set c.self.inside.words c.self.inside.blocks w v c.without_bit-self-inside.result c.self.invariant (omega (arith, c.requires))
    (λ k l apart. c.without_bit-self-inside.ensures k ∙ cond-false (k == w) 0 _ (ne_eqb k w apart))
    (c.without_bit-self-inside.ensures w ∙ cond-true (w == w) 0 _ (eq-eqb w w refl) ∙ sym (cond-true (v == 0) 0 1 (eq-eqb v 0 c.if-word-eq0.true)))

pub invariant_of-self-else-word-eq0 : goal.invariant_of-self-else-word-eq0
invariant_of-self-else-word-eq0 c =
    let w = c.args.node / 64 in
    let b = c.args.node % 64 in
    let v = c.without_bit-word.result in
    let old = slice_index_or c.self.inside.words w 0 in
    let below : w < 64 = omega (arith, c.requires) in
    -- a word in which a bit is left wasn't 0 before
    let was : old ≢ 0 = λ is. c.if-word-eq0.false (same_from_bits v 0 (λ i. c.without_bit-word.ensures i ∙ elim (cases_eq i b) [
      | inl here ↦ cond-true (i == b) 0 (bit_at old i) (eq-eqb i b here) ∙ sym (bit_at-zero i)
      | inr apart ↦ cond-false (i == b) 0 (bit_at old i) (ne_eqb i b apart) ∙ ap (λ (x : ℕ). bit_at x i) is
    ])) in
    word-set c.self.inside.words c.self.inside.blocks w v c.self.inside.blocks c.self.invariant (omega (arith, c.requires))
    (λ k l apart. refl)
    (c.self.invariant.filled w below ∙ cond-false (old == 0) 0 1 (ne_eqb old 0 was) ∙ sym (cond-false (v == 0) 0 1 (ne_eqb v 0 c.if-word-eq0.false)))
