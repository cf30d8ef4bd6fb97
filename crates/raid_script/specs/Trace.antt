-- The lines of the trace.
use Rattle.std.specs.Prelude.{ℕ, List, [], ◌∷◌, codes, decimal, flat_map}
use Rattle.blk_plain.specs.declared.op.OpId.{OpId}
use Rattle.eng_world.specs.declared.item.Traced.{Traced}
use Rattle.eng_world.specs.declared.item.Traced.TheVariants as traced
use Rattle.put_line.specs.Line.{line}

-- a word, C.I, and what stands behind them
abbrev pub op_line : List ℕ → OpId → List (List ℕ) → List ℕ
op_line word id behind =
    line (word ∷ codes " " ∷ decimal id.client ∷ codes "." ∷ decimal id.index ∷ behind)

-- the line of an event
abbrev pub event_line : Traced → List ℕ
event_line (traced.Fill column device count) = line
    (codes "fill " ∷ decimal column ∷ codes " " ∷ decimal device ∷ codes " " ∷ decimal count
    ∷ codes "\n" ∷ [])
event_line (traced.Resume column count) = line
    (codes "resume " ∷ decimal column ∷ codes " " ∷ decimal count ∷ codes "\n" ∷ [])
event_line (traced.Spread column) =
    line (codes "spread" ∷ codes " " ∷ decimal column ∷ codes "\n" ∷ [])
event_line (traced.Fail column) = line (codes "fail" ∷ codes " " ∷ decimal column ∷ codes "\n" ∷ [])
event_line (traced.Begin id) = op_line (codes "begin") id (codes "\n" ∷ [])
event_line (traced.Take id) = op_line (codes "take") id (codes "\n" ∷ [])
event_line (traced.Fire id node) =
    op_line (codes "fire") id (codes " " ∷ decimal node ∷ codes "\n" ∷ [])
event_line (traced.Good id node) =
    op_line (codes "good") id (codes " " ∷ decimal node ∷ codes "\n" ∷ [])
event_line (traced.Bad id node) =
    op_line (codes "bad") id (codes " " ∷ decimal node ∷ codes "\n" ∷ [])
event_line (traced.Skip id node) =
    op_line (codes "skip") id (codes " " ∷ decimal node ∷ codes "\n" ∷ [])
event_line (traced.Back id) = op_line (codes "back") id (codes "\n" ∷ [])

-- of all events, in their order, client 16's too
abbrev pub trace_text : List Traced → List ℕ
trace_text trace = flat_map event_line trace
