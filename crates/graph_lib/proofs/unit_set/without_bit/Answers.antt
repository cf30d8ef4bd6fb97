use Rattle.std.proofs.Common.{◌≡◌, ℕ, ◌-◌, inl, inr, ap, sym, ◌∙◌, arith, bit_and}
use Rattle.std.specs.Prelude.{◌^◌, ◌*◌, ◌%◌, ◌==◌, ◌&&◌, not}
use Rattle.std.specs.Int.{bit_at, w32}
use Rattle.std.proofs.lemmas.Bool.{cases_eq, cases_lt, eq-eqb, ne_eqb}
use Rattle.std.proofs.lemmas.Nat.Bits.{bit_at_and, bit_at_above, bit_at_clear_same, bit_at_clear_other}
use Rattle.graph_lib.proofs.UnitBits.{is-clear, and-false, and-true}
use Rattle.graph_lib.proofs.unit_set.without_bit.Goals as goal

pub returns : goal.returns
returns c i =
    let unit = c.args.bit in
    let was : ℕ = c.args.word in
    let mask : ℕ = 4294967295 - 1 * 2 ^ unit % 4294967296 in
    elim (cases_eq i unit) [
      | inl e ↦
          is-clear (bit_at (bit_and was mask) i) (ap (bit_at (bit_and was mask)) e ∙ bit_at_clear_same w32 was unit (omega arith))
          ∙ sym (ap (λ b. (bit_at c.args.word i == 1) && not b) (eq-eqb i unit e) ∙ and-false (bit_at c.args.word i == 1))
      | inr apart ↦
          ap (λ (x : ℕ). x == 1) (elim (cases_lt i 32) [
            | inl low ↦ bit_at_clear_other w32 was unit (omega arith) i low apart
            | inr past ↦
                let none : bit_at was i ≡ 0 = bit_at_above was 32 i (omega (arith, c.ranges.word.fits)) past in
                let both = bit_at_and was mask i in
                omega (arith, none, both)
          ])
          ∙ sym (ap (λ b. (bit_at c.args.word i == 1) && not b) (ne_eqb i unit apart) ∙ and-true (bit_at c.args.word i == 1))
    ]
