-- Words of which no bit is set.
use Rattle.std.proofs.Common.{◌≡◌, ℕ, zero, suc, List, ◌∙◌, ap, refl, sym, arith, length, inl, inr, slice_index_or, replicate, false}
use Rattle.std.specs.Prelude.{◌==◌, if◌then◌else◌, ◌/◌, ◌%◌}
use Rattle.std.specs.Int.{bit_at}
use Rattle.std.proofs.lemmas.List.{get_or-replicate, get_or_past}
use Rattle.std.proofs.lemmas.Bool.{cases_lt, cond-false, ne_eqb}
use Rattle.std.proofs.lemmas.Nat.Bits.{bit_at-zero}
use Rattle.eng_one.specs.Bits.{has, AreWords}

no-word : (k : ℕ) → ◌≡◌ {A = ℕ} (slice_index_or (replicate 32 0) k 0) 0
no-word k = elim (cases_lt k 32) [
  | inl low ↦ get_or-replicate 32 k 0 0 low
  | inr past ↦ get_or_past (replicate 32 0) k 0 (let e : length (replicate {A = ℕ} 32 0) ≡ 32 = refl in omega (arith, past, e))
]

pub no-words : AreWords (replicate 32 0) 0
no-words = record {
  long = refl;
  filled = λ w l. bit_at-zero w ∙ ap (λ (x : ℕ). if x == 0 then 0 else 1) (sym (no-word w));
}

zero-word : (x b : ℕ) → b ≡ 0 → b ≡ (if x == 0 then 0 else 1) → x ≡ 0
zero-word zero b e h = refl
zero-word (suc x) b e h =
    let z : ◌≡◌ {A = ℕ} 0 1 = sym e ∙ (h ∙ cond-false (suc x == 0) 0 1 (ne_eqb (suc x) 0 (λ q. omega arith))) in
    absurd (omega arith)

-- where no word has a bit, the set has no number
pub none-set : (words : List ℕ) (blocks k : ℕ) → AreWords words blocks → blocks ≡ 0 → has words k ≡ false
none-set words blocks k h none =
    let word : slice_index_or words (k / 64) 0 ≡ 0 = elim (cases_lt (k / 64) 64) [
      | inl low ↦ zero-word (slice_index_or words (k / 64) 0) (bit_at blocks (k / 64)) (ap (λ (x : ℕ). bit_at x (k / 64)) none ∙ bit_at-zero (k / 64)) (h.filled (k / 64) low)
      | inr past ↦ get_or_past words (k / 64) 0 (omega (arith, past, h.long))
    ] in
    ap (λ (x : ℕ). bit_at x (k % 64) == 1) word ∙ ap (λ (x : ℕ). x == 1) (bit_at-zero (k % 64))

pub has-none : (k : ℕ) → has (replicate 32 0) k ≡ false
has-none k = ap (λ (x : ℕ). bit_at x (k % 64) == 1) (no-word (k / 64)) ∙ ap (λ (x : ℕ). x == 1) (bit_at-zero (k % 64))
