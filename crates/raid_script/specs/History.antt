-- The lines of the history.
use Rattle.std.specs.Prelude.{ℕ, List, [], ◌∷◌, codes, decimal, flat_map, nat_eq, if◌then◌else◌}
use Rattle.blk_plain.specs.declared.op.OpId.{OpId}
use Rattle.put_line.specs.Line.{line}

-- of each operation, in the history's order: commit C.I, and nothing of client 16, the array's own
abbrev pub history_text : List OpId → List ℕ
history_text history = flat_map
    (λ (id : OpId). if nat_eq id.client 16 then []
    else line (codes "commit " ∷ decimal id.client ∷ codes "." ∷ decimal id.index ∷ codes "\n" ∷ []))
    history
