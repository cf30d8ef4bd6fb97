-- What a step of a reader answers.
use Rattle.std.specs.Prelude.{◌≡◌, Result, Ok, Err}

-- what it gave, seen by a view, or its refusal
abbrev pub Gives : {X A E : Type 0} → (X → A) → Result X E → Result A E → Type 0
Gives view (Ok x) read = read ≡ Ok (view x)
Gives view (Err e) read = read ≡ Err e
