use Rattle.std.proofs.Common.{◌≡◌, ◌<◌, ◌++◌, ℕ, drop}
use Rattle.graph_mean.specs.Graph.{vertex_at}
use Rattle.graph_text.specs.Printing.{lines_text}
use Rattle.graph_text.specs.FormatForm.{node_lines, IsWordNode}
use Rattle.graph_text.proofs.print.push_nodes.Given as goal

-- what was appended, and what is still to be, is all; the numbers so far are such as a word can be
abbrev pub invariant-loop-i : goal.invariant-loop-i
invariant-loop-i l = record {
  lines : l.text.items ++ lines_text (node_lines l.i (drop l.i l.graph.drawn.nodes)) ≡ l.fn.text.items ++ lines_text (node_lines 0 l.graph.drawn.nodes);
  words : (k : ℕ) → k < l.i → IsWordNode (vertex_at l.graph.drawn k);
}
