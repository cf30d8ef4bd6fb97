-- A line of words and a number.
use Rattle.std.specs.Prelude.{ℕ, List, [], ◌∷◌, codes, decimal}
use Rattle.put_line.specs.Line.{line}

abbrev pub number_line : List ℕ → ℕ → List ℕ
number_line words n = line (words ∷ decimal n ∷ codes "\n" ∷ [])
