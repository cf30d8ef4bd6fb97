-- A joined graph is no larger than an operation may have it.
use Rattle.std.proofs.Common.{◌≡◌, inl, inr, ℕ, ◌+◌, ◌≤◌, List, [], ◌∷◌, ◌++◌, length, map, sym, subst, arith, length-append}
use Rattle.std.specs.List.{sum_by}
use Rattle.std.proofs.lemmas.List.{length-map}
use Rattle.std.proofs.lemmas.List.Sums.{sum_by-append}
use Rattle.graph_mean.specs.declared.graph.Node.{Node}
use Rattle.graph_mean.specs.declared.graph.Node.TheVariants.{Cmt, Trm}
use Rattle.graph_mean.specs.Graph.{View, Vertex, vertex_at, edges_at, edge_count}
use Rattle.graph_mean.specs.Refusals.{IsLarge}
use Rattle.graph_merge.specs.declared.half.Offsets.{Offsets}
use Rattle.graph_merge.specs.declared.half.Group.TheVariants.{Early, Rest}
use Rattle.graph_merge.specs.Form.{IsInLimits, IsTooLarge}
use Rattle.graph_merge.specs.Joined.{Half, IsJoined, IsMarkedHalf, node_of, place, joint, joined, first_offsets, second_offsets, group_of}
use Rattle.graph_merge.proofs.Totals.{moved_edges, group_edges, total_nodes, nodes_few, bufs_few, rets_few, edges_few}
use Rattle.graph_merge.proofs.JoinedNodes.{node_count}
use Rattle.graph_merge.proofs.Standing.{buf_count}
use Rattle.graph_merge.proofs.Returning.{ret_count}

node_edges : (h : Half) (o : Offsets) (up n : ℕ) → edges_at (node_of h o up n) ≡ edges_at (vertex_at h.graph n)
unfolding node_of
node_edges h o up n = moved_edges (place h o) up (vertex_at h.graph n)

-- the sources and antecedents of six parts
six_parts : (x1 x2 : List Vertex) (v : Vertex) (x3 x4 : List Vertex) (w : Vertex) → sum_by edges_at (x1 ++ x2 ++ v ∷ [] ++ x3 ++ x4 ++ w ∷ []) ≡ sum_by edges_at x1 + sum_by edges_at x2 + edges_at v + sum_by edges_at x3 + sum_by edges_at x4 + edges_at w
six_parts x1 x2 v x3 x4 w =
    let a = sum_by-append edges_at (x1 ++ x2 ++ v ∷ [] ++ x3 ++ x4) (w ∷ []) in
    let b = sum_by-append edges_at (x1 ++ x2 ++ v ∷ [] ++ x3) x4 in
    let c = sum_by-append edges_at (x1 ++ x2 ++ v ∷ []) x3 in
    let d = sum_by-append edges_at (x1 ++ x2) (v ∷ []) in
    let e = sum_by-append edges_at x1 x2 in
    omega arith

module _ (a b : Half) (shift : ℕ) (ma : IsMarkedHalf a) (mb : IsMarkedHalf b) where
  joint_edges : (kind : Node) (n m : ℕ) → edges_at (joint a b kind n m) ≡ length (vertex_at a.graph n).antes + length (vertex_at b.graph m).antes
  unfolding joint
  joint_edges kind n m =
      let l : length (map (place a (first_offsets a b)) (vertex_at a.graph n).antes) ≡ length (vertex_at a.graph n).antes = length-map (vertex_at a.graph n).antes (place a (first_offsets a b)) in
      let r : length (map (place b (second_offsets a b)) (vertex_at b.graph m).antes) ≡ length (vertex_at b.graph m).antes = length-map (vertex_at b.graph m).antes (place b (second_offsets a b)) in
      let both = length-append (map (place a (first_offsets a b)) (vertex_at a.graph n).antes) (map (place b (second_offsets a b)) (vertex_at b.graph m).antes) in
      omega arith

  edges : edge_count (joined a b shift) ≤ edge_count a.graph + edge_count b.graph
  unfolding joined
  edges =
      let up = length a.graph.bufs in
      let parts = six_parts (group_of Early a (first_offsets a b) 0 (length a.graph.nodes)) (group_of Early b (second_offsets a b) up (length b.graph.nodes)) (joint a b Cmt a.ends.commit b.ends.commit) (group_of Rest a (first_offsets a b) 0 (length a.graph.nodes)) (group_of Rest b (second_offsets a b) up (length b.graph.nodes)) (joint a b Trm a.ends.end b.ends.end) in
      let c = joint_edges Cmt a.ends.commit b.ends.commit in
      let e = joint_edges Trm a.ends.end b.ends.end in
      let one = group_edges a.graph a.ends a.late ma.formed ma.late (node_of a (first_offsets a b) 0) (node_edges a (first_offsets a b) 0) in
      let two = group_edges b.graph b.ends b.late mb.formed mb.late (node_of b (second_offsets a b) up) (node_edges b (second_offsets a b) up) in
      omega arith

  nodes : length (joined a b shift).nodes + 2 ≡ length a.graph.nodes + length b.graph.nodes
  nodes =
      let all = node_count a b shift ma mb in
      let one = total_nodes a.graph a.ends a.late ma.formed ma.late in
      let two = total_nodes b.graph b.ends b.late mb.formed mb.late in
      omega arith

  pub within : ¬ (IsTooLarge a.graph b.graph) → IsInLimits (joined a b shift)
  within fits = record {
    nodes = let all = nodes in let few = nodes_few a.graph b.graph fits in omega arith;
    bufs = let all = buf_count a b shift ma mb in let few = bufs_few a.graph b.graph fits in omega arith;
    rets = let all = ret_count a b shift in let few = rets_few a.graph b.graph fits in omega arith;
    edges = let all = edges in let few = edges_few a.graph b.graph fits in omega arith;
  }

-- the checker finds such a graph no larger than it may be
pub not_large : (g : View) → IsInLimits g → ¬ (IsLarge g)
not_large g within large = elim large [
  | inl n ↦ let few = within.nodes in absurd (omega arith)
  | inr more ↦ elim more [
    | inl n ↦ let few = within.bufs in absurd (omega arith)
    | inr n ↦ let few = within.edges in absurd (omega arith)
  ]
]

-- of two graphs and a shift
pub joined_within : (a b out : View) (shift : ℕ) → IsJoined a b shift out → IsInLimits out
joined_within a b out shift j =
    let fits : ¬ (IsTooLarge j.first.graph j.second.graph) = subst (λ (g : View). ¬ (IsTooLarge g j.second.graph)) (sym j.of_first) (subst (λ (g : View). ¬ (IsTooLarge a g)) (sym j.of_second) j.small) in
    subst IsInLimits (sym j.is) (within j.first j.second shift j.first_marked j.second_marked fits)
