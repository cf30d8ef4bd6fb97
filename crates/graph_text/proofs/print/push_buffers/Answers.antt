use Rattle.std.proofs.Common.{arith, below_more, subst}
use Rattle.std.proofs.lemmas.List.Elements.{All-from_get_or}
use Rattle.graph_text.specs.FormatForm.{IsWordBuf}
use Rattle.graph_text.proofs.PrintedLines.{buffers_more, no_buffers, one_more, all_done}
use Rattle.graph_text.proofs.print.push_buffers.Goals as goal

pub loop-i-preserved : goal.loop-i-preserved
loop-i-preserved c = record {
  lines = one_more _ _ _ _ _ _ c.in_ok-push_buffer.ensures.line (buffers_more c.args.graph.now.drawn.bufs c.loop-i.i c.buf.result _ (omega arith) c.buf.ensures) c.loop-i.invariant.lines;
  words = below_more _ _ c.loop-i.invariant.words (subst IsWordBuf c.buf.ensures c.push_buffer.ensures.words);
}

pub returns-clause-lines : goal.returns-clause-lines
returns-clause-lines c = all_done _ _ _ (no_buffers c.args.graph.now.drawn.bufs c.loop-i.i (omega arith)) c.loop-i.invariant.lines

pub returns-clause-words : goal.returns-clause-words
returns-clause-words c = All-from_get_or IsWordBuf c.args.graph.now.drawn.bufs _ (λ k lt. c.loop-i.invariant.words k (omega arith))
