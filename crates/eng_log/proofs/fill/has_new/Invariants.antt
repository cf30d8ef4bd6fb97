use Rattle.std.proofs.Common.{◌≡◌, ◌<◌, ℕ, None}
use Rattle.graph_mean.specs.Graph.{buf_at}
use Rattle.eng_log.proofs.fill.has_new.Given as goal

abbrev pub invariant-loop-b : goal.invariant-loop-b
invariant-loop-b l = (b : ℕ) → b < l.b → (buf_at l.graph.drawn b).new_of ≡ None
