use Rattle.std.proofs.Common.{◌≡◌, ℕ, ◌+◌, ◌-◌, ◌<◌, ◌≤◌, ◌∙◌, ap, sym, arith}
use Rattle.std.specs.Prelude.{◌^◌, ◌/◌}
use Rattle.std.specs.Int.{w64, bit_at, trailing_zeros}
use Rattle.std.proofs.lemmas.Nat.{shr_le}
use Rattle.std.proofs.lemmas.Nat.Bits.{bit_at-zero, bit_at-trailing_zeros}
use Rattle.graph_lib.proofs.UnitBits.{is-set, is-clear, shifted}
use Rattle.graph_lib.proofs.unit_set.next_bit.Goals as goal

pub returns-then-rest-eq0 : goal.returns-then-rest-eq0
returns-then-rest-eq0 c i l m =
    let b = c.from.result in
    is-clear (bit_at c.args.word i) (ap (λ (x : ℕ). bit_at x i) (sym c.from.ensures) ∙ sym (shifted b c.args.from i l) ∙ ap (λ (x : ℕ). bit_at x (i - c.args.from)) c.if-rest-eq0.true ∙ bit_at-zero (i - c.args.from))

-- the lowest bit that is set, of those that are left
module _ (b from : ℕ) (fits : b < 4294967296) (some : 0 < b / 2 ^ from) where
  abbrev lowest : ℕ
  lowest = trailing_zeros w64 (b / 2 ^ from)

  found : (lowest < 64) × (bit_at (b / 2 ^ from) lowest ≡ 1) × ((i : ℕ) → i < lowest → bit_at (b / 2 ^ from) i ≡ 0)
  found = bit_at-trailing_zeros w64 (b / 2 ^ from) some (let l = shr_le b from in omega (arith, fits, l))

  here : bit_at b (from + lowest) ≡ 1
  here = sym (shifted b from (from + lowest) (omega arith)) ∙ ap (bit_at (b / 2 ^ from)) (let e : from + lowest - from ≡ lowest = omega arith in e) ∙ found.1

  least : (i : ℕ) → from ≤ i → i < from + lowest → bit_at b i ≡ 0
  least i l m = sym (shifted b from i l) ∙ found.2 (i - from) (omega (arith, l, m))

pub returns-then-bit-end : goal.returns-then-bit-end
returns-then-bit-end c =
    let b = c.from.result in
    let fits : b < 4294967296 = omega (arith, c.from.ensures, c.ranges.word.fits) in
    let some : 0 < b / 2 ^ c.args.from = omega (arith, c.if-rest-eq0.false) in
    record {
      from_on = omega arith;
      below = c.if-bit-end.true;
      here = is-set (bit_at c.args.word (c.args.from + trailing_zeros w64 (b / 2 ^ c.args.from))) (ap (λ (x : ℕ). bit_at x (c.args.from + trailing_zeros w64 (b / 2 ^ c.args.from))) (sym c.from.ensures) ∙ here b c.args.from fits some);
      least = λ i l m. is-clear (bit_at c.args.word i) (ap (λ (x : ℕ). bit_at x i) (sym c.from.ensures) ∙ least b c.args.from fits some i l m);
    }

pub returns-else-bit-end : goal.returns-else-bit-end
returns-else-bit-end c i l m =
    let b = c.from.result in
    let fits : b < 4294967296 = omega (arith, c.from.ensures, c.ranges.word.fits) in
    let some : 0 < b / 2 ^ c.args.from = omega (arith, c.if-rest-eq0.false) in
    is-clear (bit_at c.args.word i) (ap (λ (x : ℕ). bit_at x i) (sym c.from.ensures) ∙ least b c.args.from fits some i l (let past = c.if-bit-end.false in omega (arith, m, past)))
