-- What is printed of a parity map.
use Rattle.std.specs.Prelude.{ℕ, List, [], ◌∷◌, Option, Some, None, codes, decimal}
use Rattle.put_line.specs.Line.{line}
use Rattle.top_looks.specs.declared.map.Marked.{Marked}

-- how many regions there are, and how many of them are marked, where a device in use has a map
abbrev pub map_text : Option Marked → List ℕ
map_text None = codes "map none\n"
map_text (Some m) = line
    (codes "map regions " ∷ decimal m.regions ∷ codes " marked " ∷ decimal m.marked ∷ codes "\n"
    ∷ [])
