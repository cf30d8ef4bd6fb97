-- Where the members of a set stand in a list.
use Rattle.std.specs.Prelude.{◌≡◌, ℕ, ◌<◌, ◌≤◌, List, length, MatchOption, Option}
use Rattle.raid_assemble.specs.declared.sets.Set.{Set}
use Rattle.raid_assemble.specs.declared.sets.Standing.{Standing}
use Rattle.raid_assemble.specs.declared.sets.Standing.TheVariants.{Member}
use Rattle.top_scan.specs.declared.members.Found.{Found}
use Rattle.top_scan.specs.Steps.{standing_at, set_at}

-- all members of the set have a column below this one
abbrev pub HasColumnsBelow : List Standing → ℕ → ℕ → Type 0
HasColumnsBelow places set columns =
    (place column : ℕ) → place < length places → standing_at places place ≡ Member set column
    → column < columns

-- so it is with each of these sets
abbrev pub HaveColumnsBelow : List Standing → List Set → Type 0
HaveColumnsBelow places sets =
    (set : ℕ) → set < length sets → HasColumnsBelow places set (set_at sets set).columns

-- among the places below this one the set has no member from this column on
abbrev pub NoneFrom : List Standing → ℕ → ℕ → ℕ → Type 0
NoneFrom places set from limit =
    (place column : ℕ) → place < limit → standing_at places place ≡ Member set column
    → column < from

-- among these places it is the member of the least column from this one on, and the first of those
pub record IsNext (places : List Standing) (set from limit : ℕ) (found : Found) : Type 0 where
  pub within : found.place < limit
  pub member : standing_at places found.place ≡ Member set found.column
  pub onward : from ≤ found.column
  pub least : (place column : ℕ) → place < limit → standing_at places place ≡ Member set column
      → from ≤ column → found.column ≤ column
  pub first : (place : ℕ) → place < found.place
      → standing_at places place ≡ Member set found.column → ⊥

-- what was found among these places is the next member, and nothing exactly where there is none
abbrev pub IsNextIn : List Standing → ℕ → ℕ → ℕ → Option Found → Type 0
IsNextIn places set from limit found =
    MatchOption found (NoneFrom places set from limit) (IsNext places set from limit)
