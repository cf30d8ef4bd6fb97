use Rattle.std.proofs.Common.{◌≡◌, ℕ, ◌∙◌, sym, subst, arith, inl, inr, bit_or}
use Rattle.std.specs.Prelude.{◌==◌, ◌*◌, ◌^◌, ◌%◌}
use Rattle.std.specs.Int.{bit_at, w64}
use Rattle.std.proofs.lemmas.Bool.{cases_eq, cond-true, cond-false, eq-eqb, ne_eqb}
use Rattle.std.proofs.lemmas.Nat.Bits.{bit_at_set_same, bit_at_set_other}
use Rattle.eng_one.proofs.bits.with_bit.Goals as goal

pub returns : goal.returns
returns c k = elim (cases_eq k c.args.bit) [
  | inl is ↦
      subst (λ (j : ℕ). bit_at (bit_or c.args.word (1 * 2 ^ c.args.bit % 18446744073709551616)) j ≡ 1) (sym is) (bit_at_set_same w64 c.args.word c.args.bit (omega arith))
      ∙ sym (cond-true (k == c.args.bit) 1 (bit_at c.args.word k) (eq-eqb k c.args.bit is))
  | inr apart ↦
      bit_at_set_other w64 c.args.word c.args.bit (omega arith) k apart
      ∙ sym (cond-false (k == c.args.bit) 1 (bit_at c.args.word k) (ne_eqb k c.args.bit apart))
]
