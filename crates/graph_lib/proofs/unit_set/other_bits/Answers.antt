use Rattle.std.proofs.Common.{◌≡◌, ℕ, ◌-◌, ◌≤◌, inl, inr, ap, sym, ◌∙◌, arith, bit_and}
use Rattle.std.specs.Prelude.{◌^◌, ◌==◌, ◌&&◌, not}
use Rattle.std.specs.Int.{bit_at, w32}
use Rattle.std.proofs.Math.Pow.{pow_mono}
use Rattle.std.proofs.lemmas.Bool.{cases_lt, lt-ltb, le-ltb}
use Rattle.std.proofs.lemmas.Nat.Bits.{bit_at_and, bit_at_not, bit_at_ones, bit_at_ones_above, bit_at-lt}
use Rattle.graph_lib.proofs.UnitBits.{is-clear, is-other}
use Rattle.graph_lib.proofs.unit_set.other_bits.Goals as goal

pub overflow_cast-result : goal.overflow_cast-result
overflow_cast-result c = let p : 2 ^ c.args.count ≤ 2 ^ 32 = pow_mono c.requires in let e = c.low.ensures in omega arith

pub returns : goal.returns
returns c i =
    let was : ℕ = c.args.word in
    let mask : ℕ = 2 ^ c.args.count - 1 in
    let now : ℕ = bit_and (4294967295 - was) mask in
    let both = bit_at_and (4294967295 - was) mask i in
    ap (λ (x : ℕ). bit_at (bit_and (4294967295 - was) x) i == 1) c.low.ensures
    ∙ elim (cases_lt i c.args.count) [
      | inl l ↦
          let turned : bit_at (4294967295 - was) i ≡ 1 - bit_at was i = bit_at_not w32 was i (omega (arith, c.ranges.word.fits)) (omega (arith, l, c.requires)) in
          let one = bit_at_ones c.args.count i l in
          let same : bit_at now i ≡ 1 - bit_at was i = omega (arith, both, turned, one) in
          ap (λ (x : ℕ). x == 1) same ∙ is-other (bit_at was i) (bit_at-lt was i) ∙ sym (ap (λ b. b && not (bit_at c.args.word i == 1)) (lt-ltb i c.args.count l))
      | inr m ↦
          let none = bit_at_ones_above c.args.count i m in
          is-clear (bit_at now i) (omega (arith, both, none)) ∙ sym (ap (λ b. b && not (bit_at c.args.word i == 1)) (le-ltb i c.args.count m))
    ]
