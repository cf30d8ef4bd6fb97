-- Devices as they are brought in and handed back.
use Rattle.std.specs.Prelude.{Bool, true, false, Option, Some, None}
use Rattle.eng_parts.specs.Shelf.{Seen}

-- a device as it is brought in, if there is one: at home
abbrev pub brought : {D : Type 0} → Option D → Option (Seen D)
brought None = None
brought (Some d) = Some (record { out = false; device = d })

-- the device, if there is one and it is at home
abbrev pub at_home : {D : Type 0} → Option (Seen D) → Option D
at_home None = None
at_home (Some s) = home_if s.out s.device
  where
    home_if : {D : Type 0} → Bool → D → Option D
    home_if false d = Some d
    home_if true d = None
