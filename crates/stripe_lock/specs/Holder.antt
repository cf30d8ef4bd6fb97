-- Who holds a stripe, and what another can't do beside it.
use Rattle.std.specs.Prelude.{◌≡◌, ◌≢◌, ◌⊎◌, ℕ, ◌^◌, Bool, true, not, Option, None, Some, ◌==◌, nat_lt, if◌then◌else◌, bit_or, bit_xor}
use Rattle.std.specs.Int.{bit_at}
use Rattle.stripe_lock.specs.declared.mode.Mode.{Mode}
use Rattle.stripe_lock.specs.declared.mode.Mode.TheVariants.{Share, Exclude}
use Rattle.stripe_lock.specs.declared.holder.Holder.{Holder}
use Rattle.stripe_lock.specs.declared.holder.Holder.TheVariants.{Sharers, Excluder}

-- the owner is in the set: its bit is 1
unfoldable pub is_in : ℕ → ℕ → Bool
is_in owners owner = bit_at owners owner == 1

-- the set of one owner; of none where there is no bit for it
unfoldable pub bit_of : ℕ → ℕ
bit_of owner = if nat_lt owner 32 then 2 ^ owner else 0

-- the set with and without an owner
unfoldable pub added : ℕ → ℕ → ℕ
added owners owner = bit_or owners (bit_of owner)

unfoldable pub removed : ℕ → ℕ → ℕ
removed owners owner = bit_xor (bit_or owners (bit_of owner)) (bit_of owner)

-- how an owner holds the stripe, or None where it doesn't
abbrev pub mode_in : Holder → ℕ → Option Mode
mode_in (Sharers owners) owner = if is_in owners owner then Some Share else None
mode_in (Excluder one) owner = if one == owner then Some Exclude else None

-- one owner and no other; with an owner; without one
abbrev pub only : ℕ → Mode → Holder
only owner Share = Sharers (bit_of owner)
only owner Exclude = Excluder owner

abbrev pub joined : Holder → ℕ → Mode → Holder
joined (Sharers owners) owner Share = Sharers (added owners owner)
joined (Sharers owners) owner Exclude = Excluder owner
joined (Excluder one) owner mode = only owner mode

abbrev pub left : Holder → ℕ → Holder
left (Sharers owners) owner = Sharers (removed owners owner)
left (Excluder one) owner = if one == owner then Sharers 0 else Excluder one

-- there is an owner
abbrev pub is_held : Holder → Bool
is_held (Sharers owners) = not (owners == 0)
is_held (Excluder _) = true

-- another owner holds the stripe, and one of the two modes is Exclude
pub record IsInTheWay (holder : Holder) (owner : ℕ) (mode : Mode) : Type 0 where
  pub other : ℕ
  pub theirs : Mode
  pub apart : other ≢ owner
  pub held : mode_in holder other ≡ Some theirs
  pub alone : (mode ≡ Exclude) ⊎ (theirs ≡ Exclude)
