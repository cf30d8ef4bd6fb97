use Rattle.graph_check.specs.Samples.{HasRoom}
use Rattle.graph_tests.proofs.checker.pieces.see_pieces.Given as goal

-- the room stays
abbrev pub invariant-loop-row : goal.invariant-loop-row
invariant-loop-row g l = HasRoom l.graph
