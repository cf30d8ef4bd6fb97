-- What is fetched of a bay, or how it is refused.
use Rattle.std.specs.Prelude.{List, [], ◌∷◌, ℕ, Option, Result, Ok, Err}
use Rattle.top_status.specs.declared.status.Status.{Status}
use Rattle.top_status.specs.declared.status.Status.TheVariants as status
use Rattle.top_status.specs.Refusals.{Refused, ◌then◌, only, or_refusal}

-- a value, or the status of a fault in its place
abbrev pub or_status : {A F : Type 0} → (F → Status) → Result A F → Result A Refused
or_status status_of (Ok x) = Ok x
or_status status_of (Err fault) = Err (only (status_of fault))

-- the device of a name that is at home, or the refusal of the name
abbrev pub device_named : {D : Type 0} → (List ℕ → Option D) → List ℕ → Result D Refused
device_named home name = or_refusal (home name) (status.NoFile name)

-- it is there
abbrev pub there_is : {D : Type 0} → (List ℕ → Option D) → List ℕ → Result (Unit {0}) Refused
there_is home name = device_named home name then λ device. Ok tt

-- the devices of all these names are, or the first that isn't is refused
unfoldable pub there_are : {D : Type 0} → (List ℕ → Option D) → List (List ℕ)
    → Result (Unit {0}) Refused
there_are home [] = Ok tt
there_are home (name ∷ names) =
    (or_refusal (home name) (status.NoFile name) then λ device. Ok (tt {0}))
    then λ there. there_are home names
