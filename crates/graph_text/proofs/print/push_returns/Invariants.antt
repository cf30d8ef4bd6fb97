use Rattle.std.proofs.Common.{◌≡◌, ◌<◌, ◌++◌, ℕ, drop}
use Rattle.graph_mean.specs.Graph.{ret_at}
use Rattle.graph_text.specs.Printing.{lines_text}
use Rattle.graph_text.specs.FormatForm.{IsWordRet, return_lines}
use Rattle.graph_text.proofs.print.push_returns.Given as goal

-- what was appended, and what is still to be, is all; the numbers so far are such as a word can be
abbrev pub invariant-loop-i : goal.invariant-loop-i
invariant-loop-i l = record {
  lines : l.text.items ++ lines_text (return_lines (drop l.i l.graph.drawn.rets)) ≡ l.fn.text.items ++ lines_text (return_lines l.graph.drawn.rets);
  words : (k : ℕ) → k < l.i → IsWordRet (ret_at l.graph.drawn k);
}
