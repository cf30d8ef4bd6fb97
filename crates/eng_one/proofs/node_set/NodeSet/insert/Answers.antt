use Rattle.std.proofs.Common.{◌≡◌, ◌≢◌, ℕ, ◌∙◌, ap, refl, sym, arith}
use Rattle.std.specs.Prelude.{◌==◌, ◌/◌, ◌%◌}
use Rattle.std.specs.Int.{bit_at}
use Rattle.std.proofs.lemmas.Bool.{cond-true, cond-false, eq-eqb, ne_eqb}
use Rattle.std.proofs.lemmas.Nat.Bits.{bit_at-zero}
use Rattle.eng_one.proofs.Sets.{word-set}
use Rattle.eng_one.proofs.node_set.NodeSet.insert.Goals as goal

-- a word with a bit set isn't 0
some : (v b : ℕ) → bit_at v b ≡ 1 → v ≢ 0
some v b set is = let e : ◌≡◌ {A = ℕ} 1 0 = sym set ∙ (ap (λ (x : ℕ). bit_at x b) is ∙ bit_at-zero b) in absurd (omega arith)

pub invariant_of-self : goal.invariant_of-self
invariant_of-self c =
    let w = c.args.node / 64 in
    let b = c.args.node % 64 in
    let v = c.with_bit-word.result in
    let later = c.with_bit-self-inside.result in
    let set : bit_at v b ≡ 1 = c.with_bit-word.ensures b ∙ cond-true (b == b) 1 _ (eq-eqb b b refl) in
    word-set c.self.inside.words c.self.inside.blocks w v later c.self.invariant (omega (arith, c.requires))
    (λ k l apart. c.with_bit-self-inside.ensures k ∙ cond-false (k == w) 1 _ (ne_eqb k w apart))
    (c.with_bit-self-inside.ensures w ∙ cond-true (w == w) 1 _ (eq-eqb w w refl) ∙ sym (cond-false (v == 0) 0 1 (ne_eqb v 0 (some v b set))))
