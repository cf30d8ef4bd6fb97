-- The table of locks: who holds which stripe, and how.
use Rattle.std.specs.Prelude.{◌≡◌, ◌≢◌, ◌⊎◌, ℕ, ◌≤◌, List, Option, None, Some, Contains}
use Rattle.stripe_lock.specs.declared.mode.Mode.{Mode}
use Rattle.stripe_lock.specs.declared.mode.Mode.TheVariants.{Share, Exclude}
use Rattle.stripe_lock.specs.declared.row.Row.{Row}
use Rattle.stripe_lock.specs.Rows.{mode_at, IsSound}

-- what contracts see of a table: callers go by `owners_of` and `mode_of` alone
pub record Table : Type 0 where
  pub owners : ℕ
  pub rows : List Row

-- how many owners the table is for
unfoldable pub owners_of : Table → ℕ
owners_of table = table.owners

-- how an owner holds a stripe, or None where it doesn't
unfoldable pub mode_of : Table → ℕ → ℕ → Option Mode
mode_of table owner stripe = mode_at table.rows owner stripe

-- the owner holds no stripe
abbrev pub HoldsNothing : Table → ℕ → Type 0
HoldsNothing table owner = (stripe : ℕ) → mode_of table owner stripe ≡ None

-- a table for so many owners in which nobody holds a stripe
pub record IsIdle (table : Table) (count : ℕ) : Type 0 where
  pub owners : owners_of table ≡ count
  pub nothing : (owner : ℕ) → HoldsNothing table owner

-- no two owners hold one stripe unless both share it
abbrev pub IsApart : Table → Type 0
IsApart table = (one other stripe : ℕ) (mine theirs : Mode) → one ≢ other
    → mode_of table one stripe ≡ Some mine → mode_of table other stripe ≡ Some theirs → (mine ≡ Share) × (theirs ≡ Share)

-- another owner holds one of the stripes, and one of the two modes is Exclude
pub record Conflict (table : Table) (owner : ℕ) (stripes : List ℕ) (mode : Mode) : Type 0 where
  pub other : ℕ
  pub stripe : ℕ
  pub theirs : Mode
  pub apart : other ≢ owner
  pub wanted : Contains stripes stripe
  pub held : mode_of table other stripe ≡ Some theirs
  pub alone : (mode ≡ Exclude) ⊎ (theirs ≡ Exclude)

-- the owner holds just these stripes in this way, and the others what they held
pub record Acquires (old : Table) (owner : ℕ) (stripes : List ℕ) (mode : Mode) (new : Table) : Type 0 where
  pub owners : owners_of new ≡ owners_of old
  pub each : (stripe : ℕ) → Contains stripes stripe → mode_of new owner stripe ≡ Some mode
  pub only : (stripe : ℕ) → ¬ Contains stripes stripe → mode_of new owner stripe ≡ None
  pub others : (other stripe : ℕ) → other ≢ owner → mode_of new other stripe ≡ mode_of old other stripe

-- the owner holds nothing, and the others what they held
pub record Releases (old : Table) (owner : ℕ) (new : Table) : Type 0 where
  pub owners : owners_of new ≡ owners_of old
  pub nothing : HoldsNothing new owner
  pub others : (other stripe : ℕ) → other ≢ owner → mode_of new other stripe ≡ mode_of old other stripe

-- what a table keeps: rows in order, for at most 17 owners, with room for 272
pub record IsTable (owners : ℕ) (rows : List Row) (capacity : ℕ) : Type 0 where
  pub few : owners ≤ 17
  pub sound : IsSound rows
  pub room : 272 ≤ capacity
