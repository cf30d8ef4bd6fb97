-- Devices, at home or out, as contracts see them.
use Rattle.std.specs.Prelude.{◌≡◌, ℕ, List, Bool, true, false, Option, Some, None, slice_set, slice_index_or, map}
use Rattle.eng_parts.specs.declared.slot.Slot.{Slot}
use Rattle.eng_parts.specs.declared.slot.Slot.TheVariants.{Absent, Home, Out}

-- a device: whether it is out, and what it is, or was as it left
pub record Seen (D : Type 0) : Type 0 where
  pub out : Bool
  pub device : D

-- all devices, by number, and which of them have failed
pub record Shelved (D : Type 0) : Type 0 where
  pub slots : List (Option (Seen D))
  pub failed : List Bool

abbrev pub seen_in : {D : Type 0} → Slot D → Option (Seen D)
seen_in Absent = None
seen_in (Home d) = Some (record { out = false; device = d })
seen_in (Out copy) = Some (record { out = true; device = copy.value })

abbrev pub shown : {D : Type 0} → List (Slot D) → List Bool → Shelved D
shown slots failed = record { slots = map seen_in slots; failed = failed }

module _ {D : Type 0} where
  -- what is at the slot of this number
  abbrev pub seen_at : Shelved D → ℕ → Option (Seen D)
  seen_at s d = slice_index_or s.slots d None

  -- a device is there, and at home
  abbrev pub IsHome : Shelved D → ℕ → Type 0
  IsHome s d = (x : D) × (seen_at s d ≡ Some (record { out = false; device = x }))

  -- it is out, and was this as it left
  abbrev pub IsAway : Shelved D → ℕ → D → Type 0
  IsAway s d x = seen_at s d ≡ Some (record { out = true; device = x })

  -- the device has failed
  abbrev pub has_failed : Shelved D → ℕ → Bool
  has_failed s d = slice_index_or s.failed d false

  -- the device of this number left, or came home
  abbrev pub left : Shelved D → ℕ → D → Shelved D
  left s d x = record s { slots = slice_set s.slots d (Some (record { out = true; device = x })) }

  abbrev pub come_home : Shelved D → ℕ → D → Shelved D
  come_home s d x = record s { slots = slice_set s.slots d (Some (record { out = false; device = x })) }

  -- it has failed from now on
  abbrev pub failing : Shelved D → ℕ → Shelved D
  failing s d = record s { failed = slice_set s.failed d true }
