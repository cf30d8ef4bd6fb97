use Rattle.std.proofs.Common.{◌≡◌, ℕ, ◌<◌, false, take}
use Rattle.std.specs.Prelude.{◌||◌, slice_index_or}
use Rattle.std.specs.List.{list_any}
use Rattle.graph_check.specs.Pieces.{buf_cuts, cut_place}
use Rattle.graph_check.proofs.tables.cuts.note_bufs.Given as goal

-- those so far
abbrev pub invariant-loop-b : goal.invariant-loop-b
invariant-loop-b l = (s o : ℕ) → s < 16 → o < 128 → slice_index_or l.cuts (cut_place s o) false ≡ (list_any (buf_cuts s o) (take l.b l.graph.drawn.bufs) || slice_index_or l.fn.cuts (cut_place s o) false)
