use Rattle.std.proofs.Common.{ℕ, inl, inr, ap, sym, ◌∙◌, arith, bit_or}
use Rattle.std.specs.Prelude.{◌^◌, ◌*◌, ◌%◌, ◌==◌, ◌||◌}
use Rattle.std.specs.Int.{bit_at, w32}
use Rattle.std.proofs.lemmas.Bool.{cases_eq, eq-eqb, ne_eqb}
use Rattle.std.proofs.lemmas.Nat.Bits.{bit_at_set_same, bit_at_set_other}
use Rattle.graph_lib.specs.Section.{has_unit}
use Rattle.graph_lib.proofs.UnitBits.{is-set}
use Rattle.graph_lib.proofs.unit_set.UnitSet.with.Goals as goal

pub returns : goal.returns
returns c i =
    let unit = c.args.unit in
    let was : ℕ = c.args.self.bits in
    let now : ℕ = bit_or was (1 * 2 ^ unit % 4294967296) in
    elim (cases_eq i unit) [
      | inl e ↦ is-set (bit_at now i) (ap (bit_at now) e ∙ bit_at_set_same w32 was unit (omega arith)) ∙ sym (ap (λ b. b || has_unit c.args.self i) (eq-eqb i unit e))
      | inr apart ↦ ap (λ (x : ℕ). x == 1) (bit_at_set_other w32 was unit (omega arith) i apart) ∙ sym (ap (λ b. b || has_unit c.args.self i) (ne_eqb i unit apart))
    ]
