use Rattle.std.proofs.Common.{◌≡◌, take}
use Rattle.graph_text.proofs.copy.copy_rets.Given as goal

abbrev pub invariant-loop-i : goal.invariant-loop-i
invariant-loop-i l = l.to ≡ record l.fn.to { drawn = record l.fn.to.drawn { rets = take l.i l.from.drawn.rets } }
