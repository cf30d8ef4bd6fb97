-- Which stripes an operation could take beside the others.
use Rattle.std.specs.Prelude.{◌≡◌, ◌≢◌, ◌≤◌, ℕ, Option, Some, None}
use Rattle.stripe_lock.specs.Table.{Table, mode_of}
use Rattle.stripe_lock.specs.declared.mode.Mode.{Mode}
use Rattle.stripe_lock.specs.declared.mode.Mode.TheVariants.{Share}

-- no other than this owner holds one of the stripes, unless both would share it
abbrev pub AreFreeOf : Table → ℕ → Mode → (ℕ → Type 0) → Type 0
AreFreeOf locks c mode Wanted = (k s : ℕ) (m : Mode) → k ≢ c → Wanted s → mode_of locks k s ≡ Some m → (mode ≡ Share) × (m ≡ Share)

-- how many stripes it touches, of which there are few, where they are free; None exactly where they aren't
abbrev pub IsFreeCount : Option ℕ → Type 0 → ℕ → Type 0
IsFreeCount None Free count = Free → ⊥
IsFreeCount (Some n) Free count = Free × (n ≡ count) × (n ≤ 16)
