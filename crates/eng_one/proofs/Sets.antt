-- A set of numbers in words, and the word that says which of them aren't 0.
use Rattle.std.proofs.Common.{◌≡◌, ◌≢◌, ℕ, ◌+◌, ◌*◌, ◌/◌, ◌%◌, ◌<◌, ◌≤◌, inl, inr, Option, Some, None, List, Bool, true, ap, sym, ◌∙◌, arith, length, slice_index_or, slice_set}
use Rattle.std.specs.Prelude.{◌==◌, if◌then◌else◌, MatchOption}
use Rattle.std.specs.Int.{bit_at}
use Rattle.std.proofs.Math.ListN.{length-set}
use Rattle.std.proofs.lemmas.List.{get_or-set_same, get_or-set_other, get_or_past}
use Rattle.std.proofs.lemmas.Bool.{cases_eq, cases_lt, cond-true, eq-eqb, eqb-true}
use Rattle.std.proofs.lemmas.Nat.Bits.{bit_at-zero}
use Rattle.eng_one.specs.Bits.{has, AreWords, NoBit, NoneFrom, IsFirstFrom}

-- a word is replaced
pub word-set : (words : List ℕ) (blocks w v later : ℕ) → AreWords words blocks → w < 32 → ((k : ℕ) → k < 64 → k ≢ w → bit_at later k ≡ bit_at blocks k) → bit_at later w ≡ (if v == 0 then 0 else 1) → AreWords (slice_set words w v) later
word-set words blocks w v later h l others here = record {
  long = length-set words w v ∙ h.long;
  filled = λ k m. elim (cases_eq k w) [
    | inl is ↦ ap (bit_at later) is ∙ here ∙ ap (λ (x : ℕ). if x == 0 then 0 else 1) (sym (ap (λ (j : ℕ). slice_index_or (slice_set words w v) j 0) is ∙ get_or-set_same words w v 0 (omega (arith, l, h.long))))
    | inr apart ↦ others k m apart ∙ h.filled k m ∙ ap (λ (x : ℕ). if x == 0 then 0 else 1) (sym (get_or-set_other words w k v 0 apart))
  ];
}

-- a word of 0 has no member
pub has-none : (words : List ℕ) (k : ℕ) → slice_index_or words (k / 64) 0 ≡ 0 → has words k ≡ true → ⊥
has-none words k is h = let e : ◌≡◌ {A = ℕ} 1 0 = sym (eqb-true (bit_at (slice_index_or words (k / 64) 0) (k % 64)) 1 h) ∙ (ap (λ (x : ℕ). bit_at x (k % 64)) is ∙ bit_at-zero (k % 64)) in absurd (omega arith)

-- no more has a word whose bits aren't set
pub has-not : (words : List ℕ) (k : ℕ) → bit_at (slice_index_or words (k / 64) 0) (k % 64) ≡ 0 → has words k ≡ true → ⊥
has-not words k is h = let e : ◌≡◌ {A = ℕ} 1 0 = sym (eqb-true (bit_at (slice_index_or words (k / 64) 0) (k % 64)) 1 h) ∙ is in absurd (omega arith)

-- past the last word there is none
pub past-none : (words : List ℕ) (k : ℕ) → length words ≡ 32 → 2048 ≤ k → has words k ≡ true → ⊥
past-none words k long past h = has-none words k (get_or_past words (k / 64) 0 (let e : 32 ≤ k / 64 = omega arith in omega (arith, e, long))) h

pub filled-some : (words : List ℕ) (blocks w : ℕ) → AreWords words blocks → w < 64 → bit_at blocks w ≡ 1 → slice_index_or words w 0 ≢ 0
filled-some words blocks w h l set is = let e : ◌≡◌ {A = ℕ} 1 0 = sym set ∙ (h.filled w l ∙ cond-true (slice_index_or words w 0 == 0) 0 1 (eq-eqb (slice_index_or words w 0) 0 is)) in absurd (omega arith)

-- what is found from later on is found from here, where none lies between
pub found-before : (set : ℕ → Bool) (from later : ℕ) (found : Option ℕ) → from ≤ later → ((k : ℕ) → from ≤ k → k < later → set k ≡ true → ⊥) → MatchOption found (NoneFrom set later) (IsFirstFrom set later) → MatchOption found (NoneFrom set from) (IsFirstFrom set from)
found-before set from later None l between none = λ k m h. elim (cases_lt k later) [
  | inl low ↦ between k m low h
  | inr past ↦ none k past h
]
found-before set from later (Some n) l between is = record {
  from_on = omega (arith, l, is.from_on);
  here = is.here;
  least = λ k m low h. elim (cases_lt k later) [
    | inl before ↦ between k m before h
    | inr past ↦ is.least k past low h
  ];
}

-- none lies in what is left of a word, where no bit of it is set
pub none-left : (words : List ℕ) (from k : ℕ) → NoBit (slice_index_or words (from / 64) 0) (from % 64) → from ≤ k → k < 64 * (from / 64) + 64 → has words k ≡ true → ⊥
none-left words from k none l m =
    let same : k / 64 ≡ from / 64 = omega arith in
    has-not words k (ap (λ (x : ℕ). bit_at (slice_index_or words x 0) (k % 64)) same ∙ none (k % 64) (omega arith))
