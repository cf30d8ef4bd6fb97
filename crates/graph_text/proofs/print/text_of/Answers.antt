use Rattle.graph_text.specs.Printing.{line_text}
use Rattle.graph_text.proofs.PrintedLines.{graph_then}
use Rattle.graph_text.proofs.print.text_of.Goals as goal

pub returns-clause-text : goal.returns-clause-text
unfolding line_text
returns-clause-text c =
    graph_then c.args.name.now c.args.graph.now.drawn _ _ _ _ _ _ c.new-text.ensures.items c.in_ok-push_head.ensures c.in_ok-push_buffers.ensures.lines c.in_ok-push_nodes.ensures.lines c.in_ok-push_returns.ensures.lines c.in_ok-extend_from_slice.ensures.items

pub returns-clause-writable : goal.returns-clause-writable
returns-clause-writable c = λ limits. record { limits = limits; bufs = c.in_ok-push_buffers.ensures.words; nodes = c.in_ok-push_nodes.ensures.words; rets = c.in_ok-push_returns.ensures.words }
