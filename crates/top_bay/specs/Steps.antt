-- What the functions of this crate find piece by piece.
use Rattle.std.specs.Prelude.{Bool, true, List, [], ◌∷◌, Option, Result, Ok, Err, if◌then◌else◌, is_some}
use Rattle.raid_text.specs.Text.{Text}
use Rattle.top_words.specs.Asked.{Component, Nameless, Column, Device}
use Rattle.top_status.specs.declared.status.Status.TheVariants as status
use Rattle.top_status.specs.Refusals.{Refused, ◌then◌, only}

-- the name of a component
abbrev pub name_of : Component → List Text
name_of Nameless = []
name_of (Column name) = name ∷ []
name_of (Device name) = name ∷ []

-- a device that isn't absent is at home
abbrev pub is_at_home : {D : Type 0} → (Text → Option D) → Text → Bool
is_at_home home [] = true
is_at_home home (b ∷ name) = is_some (home (b ∷ name))

-- the device of a name is at home, or is refused
abbrev pub device_in : {D : Type 0} → (Text → Option D) → Text → Result (Unit {0}) Refused
device_in home name = if is_at_home home name then Ok tt else Err (only (status.NoFile name))
