-- What the reader answers. Want of memory is free.
use Rattle.std.specs.Prelude.{◌≡◌, ℕ, List, Result, Ok, Err}
use Rattle.graph_text.specs.Format.{Named, Read}
use Rattle.text_steps.specs.declared.at.At.{At}
use Rattle.graph_text.specs.declared.fault.BookFault.{BookFault}
use Rattle.graph_text.specs.declared.fault.BookFault.TheVariants as book
use Rattle.graph_text.specs.declared.fault.LineFault.{LineFault}
use Rattle.graph_text.specs.declared.fault.LineFault.TheVariants as line

-- what a step gave, seen by a view, or the code by which it refuses the line
abbrev pub Gives : {X A : Type 0} → (X → A) → Result X ℕ → Result A ℕ → Type 0
Gives view (Ok x) read = read ≡ Ok (view x)
Gives view (Err code) read = read ≡ Err code

-- what was read behind a line, or the code by which the line is refused
abbrev pub GivesRead : Result (Unit {0}) LineFault → Read → Result Read ℕ → Type 0
GivesRead (Ok x) now read = read ≡ Ok now
GivesRead (Err (line.Code code)) now read = read ≡ Err code
GivesRead (Err line.Memory) now read = Unit {0}

-- the fault of a text whose n-th line has this one
abbrev pub fault_at : ℕ → LineFault → BookFault
fault_at n (line.Code code) = book.At n code
fault_at n line.Memory = book.Memory

-- the refusal of a text
abbrev pub GivesFault : BookFault → Result (List Named) At → Type 0
GivesFault (book.At n code) read = read ≡ Err (record { line = n; code = code })
GivesFault book.Memory read = Unit {0}

-- the graphs of a text, or its first line that is refused and why
abbrev pub GivesBook : Result (List Named) BookFault → Result (List Named) At → Type 0
GivesBook (Ok graphs) read = read ≡ Ok graphs
GivesBook (Err fault) read = GivesFault fault read
