-- What the reader answers. Want of memory is free.
use Rattle.std.specs.Prelude.{◌≡◌, Result, Ok, Err}
use Rattle.text_steps.specs.declared.at.At.{At}
use Rattle.top_sim.specs.declared.requests.RequestsFault.{RequestsFault}
use Rattle.top_sim.specs.declared.requests.RequestsFault.TheVariants as fault

-- the refusal of a text
abbrev pub GivesFault : {A : Type 0} → RequestsFault → Result A At → Type 0
GivesFault (fault.At n code) read = read ≡ Err (record { line = n; code = code })
GivesFault fault.Memory read = Unit {0}

-- what it gave, seen by a view, or its refusal
abbrev pub GivesIfRoom : {X A : Type 0} → (X → A) → Result X RequestsFault → Result A At
    → Type 0
GivesIfRoom view (Ok x) read = read ≡ Ok (view x)
GivesIfRoom view (Err fault) read = GivesFault fault read
