-- Devices that a bay has lent, and that it gets back.
use Rattle.std.specs.Prelude.{◌≡◌, ℕ, ◌<◌, ◌↔◌, List, [], length, Option, Some, IsSome, slice_get}
use Rattle.blk_disk.specs.Devices.{at_home, device_at}
use Rattle.raid_text.specs.Text.{Text}

-- a device of one of the first k names is meant by this one
pub record IsMeant (names : List Text) (k : ℕ) (n : Text) : Type 0 where
  pub at : ℕ
  pub before : at < k
  pub is : slice_get names at ≡ Some n
  pub named : n ≡ [] → ⊥

-- The devices that were at home under the first of these names, one for each device of the list, and None for an empty name. All other names have what they had.
pub record IsLent {D : Type 0} (home after : Text → Option D) (names : List Text) (ds : List (Option D)) : Type 0 where
  pub each : (d : ℕ) → d < length ds → device_at ds d ≡ at_home home (slice_get names d)
  pub others : (n : Text) → (IsMeant names (length ds) n → ⊥) → after n ≡ home n

-- There is a device in the list exactly where a name isn't empty, and the bay has lent it under that name.
pub record AreOut {D : Type 0} (is_out : Text → Type 0) (names : List Text) (ds : List (Option D)) : Type 0 where
  pub there : (d : ℕ) (n : Text) → d < length ds → slice_get names d ≡ Some n → (IsSome (device_at ds d)) ↔ (n ≡ [] → ⊥)
  pub out : (d : ℕ) (n : Text) → d < length ds → slice_get names d ≡ Some n → (n ≡ [] → ⊥) → is_out n

-- The bay has these devices again under the first of the names, where there are any, and all other names have what they had.
pub record AreBack {D : Type 0} (home after : Text → Option D) (names : List Text) (ds : List (Option D)) : Type 0 where
  pub each : (d : ℕ) (n : Text) → d < length ds → IsSome (device_at ds d) → slice_get names d ≡ Some n → after n ≡ device_at ds d
  pub others : (n : Text) → (IsMeant names (length ds) n → ⊥) → after n ≡ home n
