-- The units of a set, one after the other.
use Rattle.std.specs.Prelude.{◌≡◌, ℕ, ◌<◌, ◌≤◌, Bool, true, false}

-- none is in from this one on and below the other
abbrev pub NoneBetween : (ℕ → Bool) → ℕ → ℕ → Type 0
NoneBetween set from end = (i : ℕ) → from ≤ i → i < end → set i ≡ false

-- the first one that is
pub record IsNextIn (set : ℕ → Bool) (from end unit : ℕ) : Type 0 where
  pub from_on : from ≤ unit
  pub below : unit < end
  pub here : set unit ≡ true
  pub least : (i : ℕ) → from ≤ i → i < unit → set i ≡ false
