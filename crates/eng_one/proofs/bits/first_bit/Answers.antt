use Rattle.std.proofs.Common.{◌≡◌, ℕ, ◌+◌, ◌-◌, ◌<◌, ◌≤◌, ◌∙◌, ap, sym, arith, inl, inr}
use Rattle.std.specs.Prelude.{◌^◌, ◌/◌, ◌%◌}
use Rattle.std.specs.Int.{w64, bit_at, trailing_zeros}
use Rattle.std.proofs.lemmas.Bool.{cases_lt}
use Rattle.std.proofs.lemmas.Nat.{shr-shr, shr_le}
use Rattle.std.proofs.lemmas.Nat.Bits.{bit_at-zero, bit_at-trailing_zeros, bit_at_above}
use Rattle.eng_one.proofs.bits.first_bit.Goals as goal

-- a bit of the word that was shifted down
shifted : (word from k : ℕ) → from ≤ k → bit_at (word / 2 ^ from) (k - from) ≡ bit_at word k
shifted word from k l = ap (λ (x : ℕ). x % 2) (shr-shr word from (k - from)) ∙ ap (bit_at word) (let e : from + (k - from) ≡ k = omega arith in e)

pub returns-then-rest-eq0 : goal.returns-then-rest-eq0
returns-then-rest-eq0 c k l = sym (shifted c.args.word c.args.from k l) ∙ ap (λ (x : ℕ). bit_at x (k - c.args.from)) c.if-rest-eq0.true ∙ bit_at-zero (k - c.args.from)

pub returns-else-rest-eq0 : goal.returns-else-rest-eq0
returns-else-rest-eq0 c =
    let word = c.args.word in
    let from = c.args.from in
    let rest = word / 2 ^ from in
    let fits : rest < 18446744073709551616 = let l = shr_le word from in omega (arith, c.ranges.word.fits, l) in
    let some : 0 < rest = omega (arith, c.if-rest-eq0.false) in
    let z = bit_at-trailing_zeros w64 rest some fits in
    let at = trailing_zeros w64 rest in
    let set : bit_at word (from + at) ≡ 1 = sym (shifted word from (from + at) (omega arith)) ∙ ap (bit_at rest) (let e : from + at - from ≡ at = omega arith in e) ∙ z.1 in
    record {
      from_on = omega arith;
      below = elim (cases_lt (from + at) 64) [
        | inl low ↦ low
        | inr past ↦ let none : bit_at word (from + at) ≡ 0 = bit_at_above word 64 (from + at) c.ranges.word.fits past in let e : 0 ≡ 1 = sym none ∙ set in absurd (omega arith)
      ];
      set = set;
      least = λ k l m. sym (shifted word from k l) ∙ z.2 (k - from) (omega (arith, l, m));
    }
