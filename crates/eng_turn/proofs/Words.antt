-- The arithmetic of a turn's word.
use Rattle.std.proofs.Common.{◌≡◌, ℕ, zero, suc, ◌+◌, ◌*◌, ◌^◌, ◌<◌, ◌≤◌, ap, refl, ◌∙◌, arith, bit_or}
use Rattle.std.proofs.lemmas.Nat.{or_block, or_shifted, or_comm}
use Rattle.eng_turn.specs.View.{live}

pub live_le : (n : ℕ) → live n ≤ n
live_le zero = omega arith
live_le (suc n) = omega arith

pub live_some : (n : ℕ) → 0 < n → live n ≡ 1
live_some zero p = absurd (omega arith)
live_some (suc n) p = refl

-- the lowest bit of an even number is set
pub or_even : (c n : ℕ) → n ≡ 2 * c → bit_or n 1 ≡ 2 * c + 1
or_even c n e = let a : n ≡ c * 2 ^ 1 = omega arith in let b = or_shifted c 1 1 (omega arith) in ap (λ (k : ℕ). bit_or k 1) a ∙ (b ∙ omega arith)

or_none : (c : ℕ) → bit_or c 0 ≡ c
or_none c = or_comm c 0

-- the lowest bit of an odd number is set already
pub or_odd : (c n : ℕ) → n ≡ 2 * c + 1 → bit_or n 1 ≡ n
or_odd c n e = let a : n ≡ c * 2 ^ 1 + 1 = omega arith in let b = or_block 1 c 0 1 1 (omega arith) (omega arith) in let z = or_none c in ap (λ (k : ℕ). bit_or k 1) a ∙ (b ∙ omega arith)
