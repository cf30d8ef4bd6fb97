-- What is told on standard error.
use Rattle.std.specs.Prelude.{◌≡◌, ℕ, List, Option, Some, None, Bool}
use Rattle.raid_bay.specs.Sink.{Puts}
use Rattle.raid_text.specs.Text.{Text}
use Rattle.top_hints.specs.Hint.{Trouble, hint_of, warning_of}
use Rattle.top_status.specs.declared.status.Status.{Status}

-- a name, and some words of the system on it
abbrev pub trouble : (name cause : Text) → Trouble
trouble name cause = record { name = name; cause = cause }

-- the sentence for a status, where something of this name was refused by the system
abbrev pub IsSentence : List Text → Status → Option Text → List ℕ → Type 0
IsSentence words status None text = text ≡ hint_of words status None
IsSentence words status (Some name) text =
    (cause : Text) × (text ≡ hint_of words status (Some (trouble name cause)))

-- the warning of a component
abbrev pub IsWarning : Text → List ℕ → Type 0
IsWarning name text = (cause : Text) × (text ≡ warning_of (trouble name cause))

-- the text was put, or a front of it
abbrev pub PutsSome : (old text new : List ℕ) → Type 0
PutsSome old text new = (whole : Bool) × Puts whole old text new
