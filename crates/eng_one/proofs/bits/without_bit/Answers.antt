use Rattle.std.proofs.Common.{◌≡◌, ℕ, ◌<◌, ◌≤◌, ◌∙◌, sym, subst, arith, inl, inr, bit_and}
use Rattle.std.specs.Prelude.{◌==◌, ◌-◌, ◌*◌, ◌^◌, ◌%◌}
use Rattle.std.specs.Int.{bit_at, w64}
use Rattle.std.proofs.lemmas.Bool.{cases_eq, cases_lt, cond-true, cond-false, eq-eqb, ne_eqb}
use Rattle.std.proofs.lemmas.Nat.Bits.{bit_at_and, bit_at_above, bit_at_clear_same, bit_at_clear_other}
use Rattle.eng_one.proofs.bits.without_bit.Goals as goal

-- above a word no bit is set
above : (word mask k : ℕ) → word < 18446744073709551616 → 64 ≤ k → bit_at (bit_and word mask) k ≡ bit_at word k
above word mask k fits past =
    let none : bit_at word k ≡ 0 = bit_at_above word 64 k fits past in
    let both = bit_at_and word mask k in
    omega (arith, none, both)

pub returns : goal.returns
returns c k = elim (cases_eq k c.args.bit) [
  | inl is ↦
      subst (λ (j : ℕ). bit_at (bit_and c.args.word (18446744073709551615 - 1 * 2 ^ c.args.bit % 18446744073709551616)) j ≡ 0) (sym is) (bit_at_clear_same w64 c.args.word c.args.bit (omega arith))
      ∙ sym (cond-true (k == c.args.bit) 0 (bit_at c.args.word k) (eq-eqb k c.args.bit is))
  | inr apart ↦
      elim (cases_lt k 64) [
        | inl low ↦ bit_at_clear_other w64 c.args.word c.args.bit (omega arith) k low apart
        | inr past ↦ above c.args.word (18446744073709551615 - 1 * 2 ^ c.args.bit % 18446744073709551616) k c.ranges.word.fits past
      ]
      ∙ sym (cond-false (k == c.args.bit) 0 (bit_at c.args.word k) (ne_eqb k c.args.bit apart))
]
