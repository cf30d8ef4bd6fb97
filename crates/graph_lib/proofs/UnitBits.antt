-- The bits of a set of units.
use Rattle.std.proofs.Common.{◌≡◌, ℕ, zero, suc, ◌+◌, ◌-◌, ◌<◌, ◌≤◌, Bool, true, false, refl, sym, ap, ◌∙◌, arith, length}
use Rattle.std.specs.Prelude.{◌^◌, ◌/◌, ◌%◌, ◌==◌, ◌&&◌, not}
use Rattle.std.specs.Int.{bit_at}
use Rattle.std.specs.Int.Count.{ones}
use Rattle.std.proofs.Math.Nat.{mod-one}
use Rattle.std.proofs.lemmas.Nat.{mod-pow-add, mod_below, ones_cat, pow_pos, shr-shr}
use Rattle.std.proofs.lemmas.Nat.Bits.{bit_at-lt}
use Rattle.graph_mean.specs.Fewest.{one_if}
use Rattle.graph_lib.specs.Library.{units_where}
use Rattle.graph_lib.proofs.Counts.{count_none, count_more}

-- a test of a bit
pub is-set : (x : ℕ) → x ≡ 1 → (x == 1) ≡ true
is-set x e = ap (λ (y : ℕ). y == 1) e

pub is-clear : (x : ℕ) → x ≡ 0 → (x == 1) ≡ false
is-clear x e = ap (λ (y : ℕ). y == 1) e

pub is-other : (x : ℕ) → x < 2 → (1 - x == 1) ≡ not (x == 1)
is-other zero l = refl
is-other (suc zero) l = refl
is-other (suc (suc x)) l = absurd (omega arith)

pub and-false : (b : Bool) → (b && false) ≡ false
and-false true = refl
and-false false = refl

pub and-true : (b : Bool) → (b && true) ≡ b
and-true true = refl
and-true false = refl

one-bit : (x : ℕ) → x < 2 → ones x ≡ one_if (x == 1)
unfolding ones
one-bit zero l = refl
one-bit (suc zero) l = refl
one-bit (suc (suc x)) l = absurd (omega arith)

turned : (x y : ℕ) → x + y ≡ y + x
turned x y = omega arith

-- how many of the lowest bits are set
pub bits-count : (b n : ℕ) → ones (b % 2 ^ n) ≡ length (units_where (λ i. bit_at b i == 1) n)
unfolding ones
bits-count b zero = ap ones (mod-one b) ∙ sym (count_none (λ i. bit_at b i == 1))
bits-count b (suc n) =
    let z : suc n ≡ 1 + n = omega arith in
    let y : n + 1 ≡ suc n = omega arith in
    ap (λ k. ones (b % 2 ^ k)) z
    ∙ ap ones (mod-pow-add b 1 n)
    ∙ ones_cat n (bit_at b n) (b % 2 ^ n) (mod_below b (2 ^ n) (pow_pos n))
    ∙ ap (λ x. x + ones (b % 2 ^ n)) (one-bit (bit_at b n) (bit_at-lt b n))
    ∙ ap (λ x. one_if (bit_at b n == 1) + x) (bits-count b n)
    ∙ turned (one_if (bit_at b n == 1)) (length (units_where (λ i. bit_at b i == 1) n))
    ∙ sym (count_more (λ i. bit_at b i == 1) n)
    ∙ ap (λ k. length (units_where (λ i. bit_at b i == 1) k)) y

-- a bit of a number that was shifted down
pub shifted : (b from k : ℕ) → from ≤ k → bit_at (b / 2 ^ from) (k - from) ≡ bit_at b k
shifted b from k l = ap (λ (x : ℕ). x % 2) (shr-shr b from (k - from)) ∙ ap (bit_at b) (let e : from + (k - from) ≡ k = omega arith in e)
