-- What is next among one place more.
use Rattle.std.proofs.Common.{◌≡◌, ◌∙◌, ℕ, ◌+◌, ◌<◌, ◌≤◌, List, sym, subst, arith, inl, inr}
use Rattle.std.proofs.lemmas.Bool.{cases_lt}
use Rattle.raid_assemble.specs.declared.sets.Standing.{Standing}
use Rattle.raid_assemble.specs.declared.sets.Standing.TheVariants.{Member}
use Rattle.top_scan.specs.Steps.{standing_at}
use Rattle.top_scan.specs.Places.{IsNext, NoneFrom}
use Rattle.top_scan.specs.declared.members.Found.{Found}

column_is : (set a b : ℕ) → Member set a ≡ Member set b → a ≡ b
column_is set a b e = cc e

module _ (places : List Standing) (set from place : ℕ) where
  -- no column of this place, from this one on
  abbrev pub NoneHere : Type 0
  NoneHere = (column : ℕ) → standing_at places place ≡ Member set column → column < from

  -- a place below the next one is below this one, or it is this one
  below_or_here : {P : Type 0} (k : ℕ) → k < place + 1 → (k < place → P) → (k ≡ place → P) → P
  below_or_here k lt below here = elim (cases_lt k place) [
    | inl less ↦ below less
    | inr most ↦ here (omega (arith, lt, most))
  ]

  -- there was none, and here is none
  pub none_more : NoneFrom places set from place → NoneHere → NoneFrom places set from (place + 1)
  none_more before here k column lt at =
      below_or_here k lt (λ less. before k column less at)
      (λ same. here column (subst (λ (i : ℕ). standing_at places i ≡ Member set column) same at))

  -- the one that was next is it still: here is none, or none of a lesser column
  pub stays_next : (f : Found) → IsNext places set from place f
      → ((column : ℕ) → standing_at places place ≡ Member set column → from ≤ column → f.column ≤ column)
      → IsNext places set from (place + 1) f
  stays_next f next here = record {
    within = omega (arith, next.within);
    member = next.member;
    onward = next.onward;
    least = λ k column lt at low.
        below_or_here k lt (λ less. next.least k column less at low)
        (λ same. here column (subst (λ (i : ℕ). standing_at places i ≡ Member set column) same at) low);
    first = next.first;
  }

  -- none here is none of a lesser column
  pub none_lesser : (f : Found) → NoneHere
      → (column : ℕ) → standing_at places place ≡ Member set column → from ≤ column → f.column ≤ column
  none_lesser f none column at low = let high = none column at in absurd (omega (arith, low, high))

  module _ (here : ℕ) (is : standing_at places place ≡ Member set here) (low : from ≤ here) where
    own : (column : ℕ) → standing_at places place ≡ Member set column → here ≡ column
    own column at = column_is set here column (sym is ∙ at)

    -- the column here isn't less
    pub not_lesser : (f : Found) → f.column ≤ here
        → (column : ℕ) → standing_at places place ≡ Member set column → from ≤ column → f.column ≤ column
    not_lesser f most column at past = subst (λ (k : ℕ). f.column ≤ k) (own column at) most

    -- the first one
    pub first_next : NoneFrom places set from place → IsNext places set from (place + 1) (record { place = place; column = here })
    first_next before = record {
      within = omega arith;
      member = is;
      onward = low;
      least = λ k column lt at past.
          below_or_here k lt (λ less. let high = before k column less at in absurd (omega (arith, past, high)))
          (λ same. let e = own column (subst (λ (i : ℕ). standing_at places i ≡ Member set column) same at) in omega (arith, e));
      first = λ k lt at. let high = before k here lt at in absurd (omega (arith, low, high));
    }

    -- one of a lesser column
    pub nearer_next : (f : Found) → IsNext places set from place f → here < f.column
        → IsNext places set from (place + 1) (record { place = place; column = here })
    nearer_next f next less = record {
      within = omega arith;
      member = is;
      onward = low;
      least = λ k column lt at past.
          below_or_here k lt (λ before. let most = next.least k column before at past in omega (arith, most, less))
          (λ same. let e = own column (subst (λ (i : ℕ). standing_at places i ≡ Member set column) same at) in omega (arith, e));
      first = λ k lt at. let most = next.least k here lt at low in absurd (omega (arith, most, less));
    }
