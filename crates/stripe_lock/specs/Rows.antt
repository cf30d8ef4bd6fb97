-- The rows of a table of locks.
use Rattle.std.specs.Prelude.{◌≡◌, ◌≢◌, ◌⊎◌, ℕ, ◌+◌, ◌<◌, ◌≤◌, Bool, true, Option, None, Some, List, [], ◌∷◌, length, slice_index_or, Contains, All, AllPairs, ◌==◌, if◌then◌else◌}
use Rattle.std.specs.List.{sum_by, AllWithin}
use Rattle.std.specs.Option.{is_some}
use Rattle.stripe_lock.specs.declared.mode.Mode.{Mode}
use Rattle.stripe_lock.specs.declared.mode.Mode.TheVariants.{Exclude}
use Rattle.stripe_lock.specs.declared.holder.Holder.{Holder}
use Rattle.stripe_lock.specs.declared.row.Row.{Row}
use Rattle.stripe_lock.specs.Holder.{mode_in, is_held, left}

-- how an owner holds a stripe, or None where it doesn't
abbrev pub mode_at : List Row → ℕ → ℕ → Option Mode
mode_at [] owner stripe = None
mode_at (row ∷ rows) owner stripe = if row.stripe == stripe then mode_in row.holder owner else mode_at rows owner stripe

-- the owner holds no stripe
abbrev pub HoldsNone : List Row → ℕ → Type 0
HoldsNone rows owner = (stripe : ℕ) → mode_at rows owner stripe ≡ None

-- each stripe is below those of all later rows
abbrev pub IsAscending : List Row → Type 0
IsAscending rows = AllPairs (λ one other. one.stripe < other.stripe) rows

-- the rows before this place have lower stripes, and no others
pub record IsPlace (rows : List Row) (stripe at : ℕ) : Type 0 where
  pub within : at ≤ length rows
  pub below : AllWithin (λ row. row.stripe < stripe) rows 0 at
  pub above : AllWithin (λ row. stripe ≤ row.stripe) rows at (length rows)

-- the row at this place is the stripe's
pub record HasRow (rows : List Row) (stripe at : ℕ) : Type 0 where
  pub within : at < length rows
  pub same : (d : Row) → (slice_index_or rows at d).stripe ≡ stripe

-- somebody holds the row's stripe, and each who does is one of 17 owners
pub record IsHeld (row : Row) : Type 0 where
  pub some : is_held row.holder ≡ true
  pub below : (owner : ℕ) (mode : Mode) → mode_in row.holder owner ≡ Some mode → owner < 17

-- how many stripes an owner holds
abbrev pub count_in : Holder → ℕ → ℕ
count_in holder owner = if is_some (mode_in holder owner) then 1 else 0

abbrev pub rows_of : ℕ → List Row → ℕ
rows_of owner rows = sum_by (λ row. count_in row.holder owner) rows

-- the rows ascend, each is held, no owner holds more than 16 stripes, and so there are at most 272
pub record IsSound (rows : List Row) : Type 0 where
  pub ascending : IsAscending rows
  pub held : All IsHeld rows
  pub most : (owner : ℕ) → rows_of owner rows ≤ 16
  pub few : length rows ≤ 272

-- another owner holds one of the stripes, and one of the two modes is Exclude
pub record IsBarred (rows : List Row) (owner : ℕ) (stripes : List ℕ) (mode : Mode) : Type 0 where
  pub other : ℕ
  pub stripe : ℕ
  pub theirs : Mode
  pub apart : other ≢ owner
  pub wanted : Contains stripes stripe
  pub held : mode_at rows other stripe ≡ Some theirs
  pub alone : (mode ≡ Exclude) ⊎ (theirs ≡ Exclude)

-- the owner holds these stripes too; whatever else is held is held as it was
pub record Grows (old : List Row) (owner : ℕ) (stripes : List ℕ) (mode : Mode) (new : List Row) : Type 0 where
  pub each : (stripe : ℕ) → Contains stripes stripe → mode_at new owner stripe ≡ Some mode
  pub only : (stripe : ℕ) → ¬ Contains stripes stripe → mode_at new owner stripe ≡ mode_at old owner stripe
  pub others : (other stripe : ℕ) → other ≢ owner → mode_at new other stripe ≡ mode_at old other stripe
  pub ascending : IsAscending new
  pub held : All IsHeld old → All IsHeld new
  pub long : length new ≤ length old + length stripes
  pub own : rows_of owner new ≤ rows_of owner old + length stripes
  pub theirs : (other : ℕ) → other ≢ owner → rows_of other new ≤ rows_of other old

-- a row without an owner, and whether somebody holds it
abbrev pub without_owner : ℕ → Row → Row
without_owner owner row = record row { holder = left row.holder owner }

abbrev pub has_holder : Row → Bool
has_holder row = is_held row.holder
