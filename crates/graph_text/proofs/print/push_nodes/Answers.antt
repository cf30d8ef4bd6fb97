use Rattle.std.proofs.Common.{◌≡◌, ◌<◌, ◌^◌, All, List, ℕ, false, [], refl, arith, below_more, subst}
use Rattle.std.proofs.lemmas.List.Elements.{All-from_get_or}
use Rattle.graph_mean.specs.declared.graph.Node.{Node}
use Rattle.graph_mean.specs.Graph.{Vertex, is_xor, vertex_at}
use Rattle.graph_text.specs.FormatForm.{IsWordKind, IsWordNode}
use Rattle.graph_text.proofs.PrintedLines.{nodes_more, no_nodes, one_more, all_done}
use Rattle.graph_text.proofs.print.push_nodes.Goals as goal
use Rattle.graph_mean.proofs.Words.{no_vertex}

vertex_is : (v : Vertex) (kind : Node) (sources antes : List ℕ) → kind ≡ v.kind → sources ≡ v.sources → antes ≡ v.antes → record { kind = kind; sources = sources; antes = antes } ≡ v
vertex_is v kind sources antes a b c = rw (a, b, c) refl

words_are : (v : Vertex) (kind : Node) (sources antes : List ℕ) → kind ≡ v.kind → sources ≡ v.sources → antes ≡ v.antes → IsWordKind kind → All (λ n. n < 2 ^ 32) sources → All (λ n. n < 2 ^ 32) antes
    → (is_xor v.kind ≡ false → v.sources ≡ []) → IsWordNode v
words_are v kind sources antes a b c k s t sums = record { kind = subst IsWordKind a k; sources = subst (All (λ n. n < 2 ^ 32)) b s; antes = subst (All (λ n. n < 2 ^ 32)) c t; sums = sums }

pub loop-i-preserved : goal.loop-i-preserved
loop-i-preserved c =
    let v = vertex_at c.args.graph.now.drawn c.loop-i.i in
    let node : Vertex = record { kind = c.node.result; sources = c.sources.result.now; antes = c.antes.result.now } in
    let is = vertex_is v c.node.result c.sources.result.now c.antes.result.now c.node.ensures c.sources.ensures.value c.antes.ensures in
    let p = c.push_node.ensures in
    let words = words_are v c.node.result c.sources.result.now c.antes.result.now c.node.ensures c.sources.ensures.value c.antes.ensures p.kind p.sources p.antes (c.sources.ensures.sums c.loop-i.i) in
    record {
      lines = one_more _ _ _ _ _ _ c.in_ok-push_node.ensures.line (nodes_more c.args.graph.now.drawn.nodes c.loop-i.i node no_vertex (omega arith) is) c.loop-i.invariant.lines;
      words = below_more _ _ c.loop-i.invariant.words words;
    }

pub returns-clause-lines : goal.returns-clause-lines
returns-clause-lines c = all_done _ _ _ (no_nodes c.args.graph.now.drawn.nodes c.loop-i.i (omega arith)) c.loop-i.invariant.lines

pub returns-clause-words : goal.returns-clause-words
returns-clause-words c = All-from_get_or IsWordNode c.args.graph.now.drawn.nodes no_vertex (λ k lt. c.loop-i.invariant.words k (omega arith))
