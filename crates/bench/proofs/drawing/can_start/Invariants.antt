use Rattle.std.proofs.Common.{◌≡◌, ℕ, ◌+◌, ◌<◌, length, take}
use Rattle.std.specs.List.{sum_by}
use Rattle.graph_mean.specs.Graph.{IsAnte}
use Rattle.bench.proofs.drawing.can_start.Given as goal

abbrev pub invariant-loop-n : goal.invariant-loop-n
invariant-loop-n l = record {
  sum : l.left + sum_by (λ v. length v.antes) (take l.n l.graph.drawn.nodes) ≡ 16384;
  named : (k a : ℕ) → k < l.n → IsAnte l.graph.drawn k a → a < length l.graph.drawn.nodes;
}
