-- The lines of the dead columns.
use Rattle.std.specs.Prelude.{ℕ, true, false, List, [], ◌∷◌, length, Some, slice_get, codes, decimal, filter, flat_map}
use Rattle.std.specs.List.{range_with_len}
use Rattle.eng_cols.specs.declared.column.Column.{Column}
use Rattle.eng_cols.specs.declared.column.Column.TheVariants as column
use Rattle.put_line.specs.Line.{line}

-- the dead ones by number, the lowest first
abbrev pub dead_columns : List Column → List ℕ
dead_columns columns =
    filter (λ c. elim (slice_get columns c) [ Some column.Dead ↦ true | _ ↦ false ])
    (range_with_len 0 (length columns))

-- the lines of these columns
abbrev pub dead_text : List ℕ → List ℕ
dead_text dead = flat_map (λ c. line (codes "dead " ∷ decimal c ∷ codes "\n" ∷ [])) dead
