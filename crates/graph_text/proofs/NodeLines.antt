-- A node's line, of which the first numbers are kept, and the limits of a graph.
use Rattle.std.proofs.Common.{◌≡◌, ◌∙◌, ℕ, ◌≤◌, ◌+◌, true, false, List, [], ◌∷◌, ◌++◌, length, Result, Ok, Err, refl, sym, ap, subst, arith}
use Rattle.std.specs.Prelude.{◌&&◌, nat_eq, nat_le, nat_lt}
use Rattle.std.proofs.lemmas.Bool.{and_parts, leb-true}
use Rattle.std.proofs.lemmas.Bool.Decides.{nat_tests}
use Rattle.std.proofs.lemmas.List.{take_all, length-take}
use Rattle.raid_text.specs.Text.{Text}
use Rattle.graph_mean.specs.declared.graph.Node.{Node}
use Rattle.graph_mean.specs.Graph.{Vertex, View, edge_count, edges_at}
use Rattle.text_steps.specs.Steps.{◌>>=◌, only_if}
use Rattle.graph_text.specs.FormatLines.{node_of}
use Rattle.graph_text.specs.Format.{with_node_line}
use Rattle.graph_text.specs.Kept.{firsts, kept_node}

-- fewer numbers than are kept are all
all_kept : (ns : List ℕ) → length (firsts ns) ≤ 16384 → firsts ns ≡ ns
unfolding firsts
all_kept ns h = take_all 16385 ns (let e = length-take 16385 ns in omega (arith, e, h))

kept_fewer : (ns : List ℕ) → length (firsts ns) ≤ length ns
unfolding firsts
kept_fewer ns = let e = length-take 16385 ns in omega (arith, e)

ok_same : (x y : Vertex) → ◌≡◌ {A = Result Vertex ℕ} (Ok x) (Ok y) → x ≡ y
ok_same x y e = cc

over_still : (n edges a b : ℕ) → a ≤ b → (nat_lt n 2048 && nat_le (edges + a) 16384) ≡ false → (nat_lt n 2048 && nat_le (edges + b) 16384) ≡ false
over_still n edges a b le over = grind (arith, nat_tests)

pub node_added : (g : View) (words : List Text) (kind : Node) (ss aa : List ℕ) → nat_eq (length g.rets) 0 ≡ true
    → kept_node (node_of (length g.nodes) words) ≡ Ok (record { kind = kind; sources = ss; antes = aa })
    → (nat_lt (length g.nodes) 2048 && nat_le (edge_count g + (length ss + length aa)) 16384) ≡ true
    → with_node_line g words ≡ Ok (record g { nodes = g.nodes ++ record { kind = kind; sources = ss; antes = aa } ∷ [] })
unfolding with_node_line
node_added g words kind ss aa order read room = rw order (go (node_of (length g.nodes) words) read)
  where
    go : (r : Result Vertex ℕ) → kept_node r ≡ Ok (record { kind = kind; sources = ss; antes = aa })
        → (r >>= λ node. only_if (nat_lt (length g.nodes) 2048 && nat_le (edge_count g + edges_at node) 16384) 5 >>= λ room. Ok (record g { nodes = g.nodes ++ node ∷ [] }))
        ≡ Ok (record g { nodes = g.nodes ++ record { kind = kind; sources = ss; antes = aa } ∷ [] })
    go (Ok v) e =
        let same = ok_same (record v { sources = firsts v.sources; antes = firsts v.antes }) (record { kind = kind; sources = ss; antes = aa }) e in
        let fits = leb-true (edge_count g + (length ss + length aa)) 16384 (and_parts (nat_lt (length g.nodes) 2048) (nat_le (edge_count g + (length ss + length aa)) 16384) room).1 in
        let s = ap (λ (u : Vertex). length u.sources) same in
        let a = ap (λ (u : Vertex). length u.antes) same in
        let few_s : length (firsts v.sources) ≤ 16384 = omega (arith, s, fits) in
        let few_a : length (firsts v.antes) ≤ 16384 = omega (arith, a, fits) in
        let whole : v ≡ record { kind = kind; sources = ss; antes = aa } =
        ap (λ (xs : List ℕ). record v { sources = xs }) (sym (all_kept v.sources few_s))
        ∙ (ap (λ (xs : List ℕ). record v { sources = firsts v.sources; antes = xs }) (sym (all_kept v.antes few_a)) ∙ same) in
        subst (λ (u : Vertex). (only_if (nat_lt (length g.nodes) 2048 && nat_le (edge_count g + edges_at u) 16384) 5 >>= λ room. Ok (record g { nodes = g.nodes ++ u ∷ [] }))
        ≡ Ok (record g { nodes = g.nodes ++ record { kind = kind; sources = ss; antes = aa } ∷ [] })) (sym whole) (rw room refl)
    go (Err code) e = absurd (cc)

pub node_over : (g : View) (words : List Text) (kind : Node) (ss aa : List ℕ) → nat_eq (length g.rets) 0 ≡ true
    → kept_node (node_of (length g.nodes) words) ≡ Ok (record { kind = kind; sources = ss; antes = aa })
    → (nat_lt (length g.nodes) 2048 && nat_le (edge_count g + (length ss + length aa)) 16384) ≡ false
    → with_node_line g words ≡ Err 5
unfolding with_node_line
node_over g words kind ss aa order read room = rw order (go (node_of (length g.nodes) words) read)
  where
    go : (r : Result Vertex ℕ) → kept_node r ≡ Ok (record { kind = kind; sources = ss; antes = aa })
        → (r >>= λ node. only_if (nat_lt (length g.nodes) 2048 && nat_le (edge_count g + edges_at node) 16384) 5 >>= λ room. Ok (record g { nodes = g.nodes ++ node ∷ [] }))
        ≡ Err 5
    go (Ok v) e =
        let same = ok_same (record v { sources = firsts v.sources; antes = firsts v.antes }) (record { kind = kind; sources = ss; antes = aa }) e in
        let s = ap (λ (u : Vertex). length u.sources) same in
        let a = ap (λ (u : Vertex). length u.antes) same in
        let ks = kept_fewer v.sources in
        let ka = kept_fewer v.antes in
        let still = over_still (length g.nodes) (edge_count g) (length ss + length aa) (length v.sources + length v.antes) (omega (arith, s, a, ks, ka)) room in
        rw still refl
    go (Err code) e = absurd (cc)
