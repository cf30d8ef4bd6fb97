-- What the reader answers. Want of memory is free.
use Rattle.std.specs.Prelude.{◌≡◌, ℕ, List, ◌++◌, Result, Ok, Err}
use Rattle.text_steps.specs.Steps.{◌>>=◌}
use Rattle.text_steps.specs.declared.at.At.{At}
use Rattle.raid_script.specs.declared.fault.ScriptFault.{ScriptFault}
use Rattle.raid_script.specs.declared.fault.ScriptFault.TheVariants as fault
use Rattle.raid_script.specs.declared.joining.Halves.{Halves}
use Rattle.raid_script.specs.Asked.{AskedPatch}
use Rattle.raid_script.specs.Steps.{seen_patch}
use Rattle.raid_script.specs.Format as format

-- the patches in front of those that are read, where they are
abbrev pub behind : List AskedPatch → Result (List AskedPatch) ℕ → Result (List AskedPatch) ℕ
behind front read = read >>= λ more. Ok (front ++ more)

-- what a join line names, without where it lies in memory
abbrev pub seen_halves : Halves → format.Halves
seen_halves h = record { first = h.first; one = seen_patch h.one; second = h.second; other = seen_patch h.other }

-- the refusal of a text
abbrev pub GivesFault : {A : Type 0} → ScriptFault → Result A At → Type 0
GivesFault (fault.At n code) read = read ≡ Err (record { line = n; code = code })
GivesFault fault.Memory read = Unit {0}

-- what a text asks for, seen by a view, or its first line that is refused and why
abbrev pub GivesScript : {X A : Type 0} → (X → A) → Result X ScriptFault → Result A At → Type 0
GivesScript view (Ok x) read = read ≡ Ok (view x)
GivesScript view (Err fault) read = GivesFault fault read
