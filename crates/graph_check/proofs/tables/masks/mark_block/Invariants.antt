use Rattle.graph_check.proofs.Marking.{BlockFrom}
use Rattle.graph_check.proofs.tables.masks.mark_block.Given as goal

abbrev pub invariant-loop-c : goal.invariant-loop-c
invariant-loop-c l = BlockFrom l.graph.drawn l.base l.c l.masks
