use Rattle.std.proofs.Common.{◌≡◌, ℕ, ◌-◌, inl, inr, ap, sym, ◌∙◌, arith}
use Rattle.std.specs.Prelude.{◌^◌, ◌*◌, ◌%◌, not}
use Rattle.std.specs.Int.{bit_at, w32}
use Rattle.std.proofs.lemmas.Bool.{cases_eq, eq-eqb, ne_eqb}
use Rattle.std.proofs.lemmas.Nat.{one_shl, mod_below}
use Rattle.std.proofs.lemmas.Nat.Bits.{bit_at_not, bit_at-pow_same, bit_at-pow_other}
use Rattle.graph_lib.proofs.UnitBits.{is-set, is-clear}
use Rattle.graph_lib.proofs.unit_set.UnitSet.all_but.Goals as goal

pub returns : goal.returns
returns c i l =
    let unit = c.args.unit in
    let m : ℕ = 1 * 2 ^ unit % 4294967296 in
    let turned : bit_at (4294967295 - m) i ≡ 1 - bit_at m i = bit_at_not w32 m i (mod_below (1 * 2 ^ unit) 4294967296 (omega arith)) l in
    let power : m ≡ 2 ^ unit = one_shl unit 32 c.requires in
    elim (cases_eq i unit) [
      | inl e ↦
          let here : bit_at m i ≡ 1 = ap (λ x. bit_at x i) power ∙ ap (bit_at (2 ^ unit)) e ∙ bit_at-pow_same unit in
          is-clear (bit_at (4294967295 - m) i) (omega arith) ∙ sym (ap not (eq-eqb i unit e))
      | inr apart ↦
          let none : bit_at m i ≡ 0 = ap (λ x. bit_at x i) power ∙ bit_at-pow_other unit i apart in
          is-set (bit_at (4294967295 - m) i) (omega arith) ∙ sym (ap not (ne_eqb i unit apart))
    ]
