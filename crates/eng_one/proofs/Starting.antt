-- Which graphs can be started.
use Rattle.std.proofs.Common.{◌≡◌, ℕ, ◌<◌, ◌≤◌, inl, inr, arith, length, refl, ap}
use Rattle.std.specs.Prelude.{nat_lt, true}
use Rattle.std.specs.List.{list_all}
use Rattle.std.proofs.lemmas.List.{get_or_past}
use Rattle.std.proofs.lemmas.List.Sums.{sum_by-le-sum_by, AllPass-from_list_all}
use Rattle.std.proofs.lemmas.List.Elements.{All-get_or, All-contains}
use Rattle.std.proofs.lemmas.Bool.{cases_lt, ltb-true}
use Rattle.graph_mean.specs.declared.refusal.Refusal.TheVariants.{Large, Index}
use Rattle.graph_mean.specs.Graph.{View, Vertex, IsAnte, vertex_at, edges_at, edge_count}
use Rattle.graph_mean.specs.Task.{Aim, Missing}
use Rattle.graph_mean.specs.Refused.{IsFree}
use Rattle.eng_one.specs.Counts.{CanStart, ante_count}
use Rattle.eng_one.specs.Samples.{whole, small}
use Rattle.graph_mean.proofs.Words.{no_vertex}

-- there are no more antecedents than sources and antecedents
pub antes-le_edges : (g : View) → ante_count g ≤ edge_count g
antes-le_edges g = sum_by-le-sum_by (λ (v : Vertex). length v.antes) edges_at g.nodes (λ v. omega arith)

-- only a node of the graph has antecedents
pub ante-below : (g : View) (n a : ℕ) → IsAnte g n a → n < length g.nodes
ante-below g n a ante = elim (cases_lt n (length g.nodes)) [
  | inl low ↦ low
  | inr past ↦
      let none : length (vertex_at g n).antes ≡ 0 = ap (λ (v : Vertex). length v.antes) (get_or_past g.nodes n no_vertex past) in
      let some : ante.0 < length (vertex_at g n).antes = ante.1 in
      absurd (omega (arith, none, some))
]

-- a graph of which no cause of refusal holds
pub can-start : (g : View) (t : Aim) (missing : Missing) → IsFree g t missing → CanStart g
can-start g t missing free = record {
  nodes = elim (cases_lt 2048 (length g.nodes)) [ inl more ↦ absurd (free Large (inl more)) | inr few ↦ few ];
  antes = elim (cases_lt 16384 (edge_count g)) [
    | inl more ↦ absurd (free Large (inr (inr more)))
    | inr few ↦ let l = antes-le_edges g in omega (arith, l, few)
  ];
  named = λ n a ante. elim (cases_lt a (length g.nodes)) [
    | inl low ↦ low
    | inr past ↦ absurd (free (Index 1 n) (ante-below g n a ante, inr (inr (a, ante, past))))
  ];
}

-- by a test of a graph that is written out
pub named-by : (g : View) → list_all (λ v. list_all (λ a. nat_lt a (length g.nodes)) v.antes) g.nodes ≡ true → (n a : ℕ) → IsAnte g n a → a < length g.nodes
named-by g test n a ante =
    let nodes = AllPass-from_list_all (λ (v : Vertex). list_all (λ b. nat_lt b (length g.nodes)) v.antes) g.nodes test in
    let here = All-get_or (λ (v : Vertex). list_all (λ b. nat_lt b (length g.nodes)) v.antes ≡ true) g.nodes n no_vertex (ante-below g n a ante) nodes in
    let antes = AllPass-from_list_all (λ (b : ℕ). nat_lt b (length g.nodes)) (vertex_at g n).antes here in
    ltb-true a (length g.nodes) (All-contains (λ (b : ℕ). nat_lt b (length g.nodes) ≡ true) (vertex_at g n).antes a antes ante)

pub whole-starts : CanStart whole
whole-starts = record { nodes = omega arith; antes = omega arith; named = named-by whole refl }

pub small-starts : CanStart small
small-starts = record { nodes = omega arith; antes = omega arith; named = named-by small refl }
