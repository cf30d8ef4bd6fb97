use Rattle.std.proofs.Common.{arith, below_more, subst}
use Rattle.std.proofs.lemmas.List.Elements.{All-from_get_or}
use Rattle.graph_text.specs.FormatForm.{IsWordRet}
use Rattle.graph_text.proofs.PrintedLines.{returns_more, no_returns, one_more, all_done}
use Rattle.graph_text.proofs.print.push_returns.Goals as goal

pub loop-i-preserved : goal.loop-i-preserved
loop-i-preserved c = record {
  lines = one_more _ _ _ _ _ _ c.in_ok-push_return.ensures.line (returns_more c.args.graph.now.drawn.rets c.loop-i.i c.ret.result _ (omega arith) c.ret.ensures) c.loop-i.invariant.lines;
  words = below_more _ _ c.loop-i.invariant.words (subst IsWordRet c.ret.ensures c.push_return.ensures.words);
}

pub returns-clause-lines : goal.returns-clause-lines
returns-clause-lines c = all_done _ _ _ (no_returns c.args.graph.now.drawn.rets c.loop-i.i (omega arith)) c.loop-i.invariant.lines

pub returns-clause-words : goal.returns-clause-words
returns-clause-words c = All-from_get_or IsWordRet c.args.graph.now.drawn.rets _ (λ k lt. c.loop-i.invariant.words k (omega arith))
