-- A line of output.
use Rattle.std.specs.Prelude.{ℕ, List, [], ◌++◌, fold}

-- its pieces, each behind those before it
abbrev pub line : List (List ℕ) → List ℕ
line pieces = fold (λ (text : List ℕ) piece. text ++ piece) [] pieces
