use Rattle.std.proofs.Common.{◌≡◌, ℕ, ◌<◌, inl, inr, List, All, ap, subst, arith, length, take}
use Rattle.std.proofs.lemmas.Bool.{cases_eq, leb-true}
use Rattle.std.proofs.lemmas.List.{take_all}
use Rattle.std.proofs.lemmas.List.Sums.{sum_by_more}
use Rattle.std.proofs.lemmas.List.Elements.{All-contains}
use Rattle.std.specs.List.{sum_by}
use Rattle.graph_mean.specs.Graph.{Vertex, IsAnte, vertex_at}
use Rattle.eng_one.proofs.Starting.{ante-below}
use Rattle.bench.proofs.drawing.can_start.Goals as goal
use Rattle.graph_mean.proofs.Words.{no_vertex}

pub loop-n-preserved : goal.loop-n-preserved
loop-n-preserved c =
    let g = c.args.graph.now.drawn in
    let n = c.loop-n.n in
    let count = c.nodes-nodes.result in
    let below : n < length g.nodes = omega (arith, c.loop-n-test.true, c.nodes-nodes.ensures) in
    let all : All (λ b. b < count) (vertex_at g n).antes = subst (λ (xs : List ℕ). All (λ b. b < count) xs) c.antes-antes.ensures (c.are_below.ensures c.if-not-are_below.false) in
    record {
      sum =
          let more = sum_by_more (λ (v : Vertex). length v.antes) g.nodes n no_vertex below in
          let here = ap length c.antes-antes.ensures in
          omega (arith, more, here, c.if-antes-left.false, c.loop-n.invariant.sum);
      named = λ k a l ante. elim (cases_eq k n) [
        | inl is ↦ let low = All-contains (λ b. b < count) (vertex_at g n).antes a all (subst (λ (j : ℕ). IsAnte g j a) is ante) in omega (arith, low, c.nodes-nodes.ensures)
        | inr apart ↦ c.loop-n.invariant.named k a (omega (arith, l, apart)) ante
      ];
    }

pub returns : goal.returns
returns c small =
    let g = c.args.graph.now.drawn in
    let n = c.loop-n.n in
    let few = leb-true c.nodes-nodes.result 2048 small in
    let whole : sum_by (λ (v : Vertex). length v.antes) (take n g.nodes) ≡ sum_by (λ (v : Vertex). length v.antes) g.nodes = ap (sum_by (λ (v : Vertex). length v.antes)) (take_all n g.nodes (omega (arith, c.loop-n-test.false, c.nodes-nodes.ensures))) in
    record {
      nodes = omega (arith, few, c.nodes-nodes.ensures);
      antes = omega (arith, whole, c.loop-n.invariant.sum);
      named = λ k a ante. let l = ante-below g k a ante in c.loop-n.invariant.named k a (omega (arith, l, c.loop-n-test.false, c.nodes-nodes.ensures)) ante;
    }
