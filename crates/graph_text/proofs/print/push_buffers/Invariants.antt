use Rattle.std.proofs.Common.{◌≡◌, ◌<◌, ◌++◌, ℕ, drop}
use Rattle.graph_mean.specs.Graph.{buf_at}
use Rattle.graph_text.specs.Printing.{lines_text}
use Rattle.graph_text.specs.FormatForm.{IsWordBuf, buffer_lines}
use Rattle.graph_text.proofs.print.push_buffers.Given as goal

-- what was appended, and what is still to be, is all; the numbers so far are such as a word can be
abbrev pub invariant-loop-i : goal.invariant-loop-i
invariant-loop-i l = record {
  lines : l.text.items ++ lines_text (buffer_lines l.i (drop l.i l.graph.drawn.bufs)) ≡ l.fn.text.items ++ lines_text (buffer_lines 0 l.graph.drawn.bufs);
  words : (k : ℕ) → k < l.i → IsWordBuf (buf_at l.graph.drawn k);
}
