use Rattle.std.proofs.Common.{◌≡◌, ◌∙◌, ◌+◌, ℕ, ap, arith}
use Rattle.graph_mean.specs.Fewest.{sum_below}
use Rattle.graph_mean.specs.Graph.{kind_at}
use Rattle.graph_mean.specs.declared.graph.Node.{Node}
use Rattle.top_plan.specs.Counts.{write_count}
use Rattle.top_plan.proofs.Summing.{sum-more, sum-none}
use Rattle.top_plan.proofs.counting.write_sectors.Goals as goal

pub loop-node-init : goal.loop-node-init
loop-node-init c = record {
  sum = sum-none (λ (n : ℕ). write_count c.args.graph.now.drawn (kind_at c.args.graph.now.drawn n));
  most = omega arith;
}

pub loop-node-preserved : goal.loop-node-preserved
loop-node-preserved c =
    let v = c.args.graph.now.drawn in
    let f : ℕ → ℕ = λ n. write_count v (kind_at v n) in
    let one : c.write_count.result ≡ f c.loop-node.node = c.write_count.ensures ∙ ap (λ (k : Node). write_count v k) c.node.ensures in
    record {
      sum = ap (λ (n : ℕ). n + c.from-sectors.result) c.loop-node.invariant.sum
          ∙ (ap (λ (n : ℕ). sum_below f c.loop-node.node + n) (c.from-sectors.ensures ∙ one) ∙ sum-more f c.loop-node.node);
      most = omega (arith, c.loop-node.invariant.most);
    }
