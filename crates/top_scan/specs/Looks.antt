-- Devices that are taken, read and put back, one after another.
use Rattle.std.specs.Prelude.{◌≡◌, ◌<◌, ℕ, List, length, Option, Some, slice_get, slice_index_or}
use Rattle.blk_disk.specs.Devices.{Stays}
use Rattle.blk_disk.specs.declared.disk.Disk.{Ghosts}
use Rattle.raid_text.specs.Text.{Text}
use Rattle.top_open.specs.Fronts.{IsCalledOnce, IsFrontOf}
use Rattle.top_open.specs.declared.fronts.Front.{Front}
use Rattle.top_open.specs.declared.fronts.Front.TheVariants.{Away}

-- The device of a name was taken as it was at home, its sector 0 was read, once, where it has one,
-- and it is at home again. No sector has changed.
pub record IsLookedAt {D : Type 0} (g : Ghosts D) (tells : Type 0) (home now : Text → Option D)
    (name : Text) (front : Front) : Type 0 where
  pub taken : D
  pub back : D
  pub was : tells → home name ≡ Some taken
  pub is : tells → now name ≡ Some back
  pub front_of : IsFrontOf g taken back front
  pub once : IsCalledOnce g (Some taken) (Some back) front
  pub stays : Stays g (λ _. ⊥) taken back

-- So it was with the devices of the first of these names, one for each front. All other names have
-- what they had.
pub record AreLookedAt {D : Type 0} (g : Ghosts D) (tells : Type 0) (home now : Text → Option D)
    (names : List Text) (fronts : List Front) : Type 0 where
  pub each : (k : ℕ) (name : Text) → k < length fronts → slice_get names k ≡ Some name
      → IsLookedAt g tells home now name (slice_index_or fronts k Away)
  pub others : tells → (n : Text)
      → ((k : ℕ) → k < length fronts → slice_get names k ≡ Some n → ⊥) → now n ≡ home n

-- the devices of some first ones of these names
abbrev pub SomeAreLookedAt : {D : Type 0} → Ghosts D → (tells : Type 0) → (home now : Text → Option D) → List Text → Type 0
SomeAreLookedAt g tells home now names = (fronts : List Front) × AreLookedAt g tells home now names fronts
