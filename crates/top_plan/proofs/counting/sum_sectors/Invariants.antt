use Rattle.std.proofs.Common.{◌≡◌, ◌≤◌, ◌*◌, ℕ}
use Rattle.graph_mean.specs.Fewest.{sum_below}
use Rattle.graph_mean.specs.Graph.{kind_at}
use Rattle.top_plan.specs.Counts.{sum_count}
use Rattle.top_plan.proofs.counting.sum_sectors.Given as goal

-- those of the nodes so far
abbrev pub invariant-loop-node : goal.invariant-loop-node
invariant-loop-node l = record {
  sum : l.sectors ≡ sum_below (λ (n : ℕ). sum_count l.graph.drawn (kind_at l.graph.drawn n)) l.node;
  most : l.sectors ≤ l.node * 4294967295;
}
