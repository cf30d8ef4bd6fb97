use Rattle.std.proofs.Common.{◌≡◌, take}
use Rattle.graph_text.specs.Pushed.{with_antes}
use Rattle.graph_text.proofs.push.push_antes.Given as goal

abbrev pub invariant-loop-ante : goal.invariant-loop-ante
invariant-loop-ante l = l.graph ≡ with_antes l.fn.graph (take l.ante-index l.antes)
