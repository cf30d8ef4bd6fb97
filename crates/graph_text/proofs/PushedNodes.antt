-- Sources and antecedents that come to the last node one by one.
use Rattle.std.proofs.Common.{◌≡◌, ◌∙◌, ℕ, ◌<◌, ◌+◌, ◌-◌, List, [], ◌∷◌, ◌++◌, take, set, get_or, length, refl, sym, ap, arith, append_assoc, append-nil, length-append}
use Rattle.std.specs.List.{sum_by}
use Rattle.std.proofs.Math.Seq.{set-append_seam, take-append_seam, take-length}
use Rattle.std.proofs.lemmas.Grind.{take_at_read, common_steps}
use Rattle.std.proofs.lemmas.List.Sums.{sum_by-append}
use Rattle.graph_mean.specs.declared.graph.Node.{Node}
use Rattle.graph_mean.specs.Graph.{Held, Vertex, edge_count, edges_at, last_vertex, with_ante, with_node, with_source}
use Rattle.graph_text.specs.Pushed.{with_antes, with_last, with_sources, with_vertex}
use Rattle.graph_mean.proofs.Words.{no_vertex}

last_place : (front : List Vertex) (v : Vertex) → length (front ++ v ∷ []) - 1 ≡ length front
last_place front v = let e = length-append front (v ∷ []) in omega arith

last_at : (front : List Vertex) (v : Vertex) → get_or (front ++ v ∷ []) (length (front ++ v ∷ []) - 1) no_vertex ≡ v
last_at front v = rw (last_place front v) (seam front v)
  where
    seam : (front : List Vertex) (v : Vertex) → get_or (front ++ v ∷ []) (length front) no_vertex ≡ v
    seam front v = grind (arith, common_steps)

set_last : (front : List Vertex) (v w : Vertex) → set (front ++ v ∷ []) (length (front ++ v ∷ []) - 1) w ≡ front ++ w ∷ []
set_last front v w = rw (last_place front v) (set-append_seam front v [] w)

-- a list up to its last node, and that node
split_last : (ns : List Vertex) → 0 < length ns → take (length ns - 1) ns ++ get_or ns (length ns - 1) no_vertex ∷ [] ≡ ns
split_last ns some =
    let within : length ns - 1 < length ns = omega arith in
    let all : (length ns - 1) + 1 ≡ length ns = omega arith in
    sym (take_at_read ns (length ns - 1) no_vertex within).1 ∙ (ap (λ (n : ℕ). take n ns) all ∙ take-length ns)

front_of : (front : List Vertex) (v : Vertex) → take (length (front ++ v ∷ []) - 1) (front ++ v ∷ []) ≡ front
front_of front v = rw (last_place front v) (take-append_seam front (v ∷ []))

-- ---- the last node of a graph whose last node was replaced

last_is : (h : Held) (v : Vertex) → last_vertex (with_last h v).drawn ≡ v
last_is h v = last_at (take (length h.drawn.nodes - 1) h.drawn.nodes) v

last_again : (h : Held) (v w : Vertex) → with_last (with_last h v) w ≡ with_last h w
last_again h v w = ap (λ (ns : List Vertex). let g : Held = record h { drawn = record h.drawn { nodes = ns ++ w ∷ [] } } in g) (front_of (take (length h.drawn.nodes - 1) h.drawn.nodes) v)

last_kept : (h : Held) → 0 < length h.drawn.nodes → with_last h (last_vertex h.drawn) ≡ h
last_kept h some = ap (λ (ns : List Vertex). let g : Held = record h { drawn = record h.drawn { nodes = ns } } in g) (split_last h.drawn.nodes some)

edges_of : (front : List Vertex) (v : Vertex) → sum_by edges_at (front ++ v ∷ []) ≡ sum_by edges_at front + edges_at v
edges_of front v = let e = sum_by-append edges_at front (v ∷ []) in omega (arith, e)

edges_last : (h : Held) (v : Vertex) → 0 < length h.drawn.nodes → edge_count (with_last h v).drawn + edges_at (last_vertex h.drawn) ≡ edge_count h.drawn + edges_at v
edges_last h v some =
    let front = take (length h.drawn.nodes - 1) h.drawn.nodes in
    let a = edges_of front v in
    let b = edges_of front (last_vertex h.drawn) in
    let c = ap (λ (ns : List Vertex). sum_by edges_at ns) (split_last h.drawn.nodes some) in
    omega (arith, a, b, c)

-- ---- sources

source_to_last : (h : Held) (v : Vertex) (b : ℕ) → with_source (with_last h v) b ≡ with_last h (record v { sources = v.sources ++ b ∷ [] })
source_to_last h v b =
    let front = take (length h.drawn.nodes - 1) h.drawn.nodes in
    let one : with_source (with_last h v) b ≡ record h { drawn = record h.drawn { nodes = set (front ++ v ∷ []) (length (front ++ v ∷ []) - 1) (record v { sources = v.sources ++ b ∷ [] }) } } =
    ap (λ (u : Vertex). let g : Held = record h { drawn = record h.drawn { nodes = set (front ++ v ∷ []) (length (front ++ v ∷ []) - 1) (record u { sources = u.sources ++ b ∷ [] }) } } in g) (last_is h v) in
    one ∙ ap (λ (ns : List Vertex). let g : Held = record h { drawn = record h.drawn { nodes = ns } } in g) (set_last front v (record v { sources = v.sources ++ b ∷ [] }))

-- one source more
pub source_more : (h : Held) (ns : List ℕ) (b : ℕ) → with_source (with_sources h ns) b ≡ with_sources h (ns ++ b ∷ [])
unfolding with_sources
source_more h ns b =
    let v = last_vertex h.drawn in
    source_to_last h (record v { sources = v.sources ++ ns }) b ∙ ap (λ (xs : List ℕ). with_last h (record v { sources = xs })) (append_assoc v.sources ns (b ∷ []))

-- before the first source
pub sources_none : (h : Held) → 0 < length h.drawn.nodes → with_sources h [] ≡ h
unfolding with_sources
sources_none h some =
    let v = last_vertex h.drawn in
    ap (λ (xs : List ℕ). with_last h (record v { sources = xs })) (append-nil v.sources) ∙ last_kept h some

pub sources_edges : (h : Held) (ns : List ℕ) → 0 < length h.drawn.nodes → edge_count (with_sources h ns).drawn ≡ edge_count h.drawn + length ns
unfolding with_sources
sources_edges h ns some =
    let v = last_vertex h.drawn in
    let e = edges_last h (record v { sources = v.sources ++ ns }) some in
    let l = length-append v.sources ns in
    omega (arith, e, l)

-- the last node's kind, and what the graph has room for, stay
pub sources_kind : (h : Held) (ns : List ℕ) → (last_vertex (with_sources h ns).drawn).kind ≡ (last_vertex h.drawn).kind
unfolding with_sources
sources_kind h ns = let v = last_vertex h.drawn in ap (λ (u : Vertex). u.kind) (last_is h (record v { sources = v.sources ++ ns }))

pub sources_room : (h : Held) (ns : List ℕ) → (with_sources h ns).edge_room ≡ h.edge_room
unfolding with_sources
sources_room h ns = refl

pub sources_some : (h : Held) (ns : List ℕ) → 0 < length (with_sources h ns).drawn.nodes
unfolding with_sources
sources_some h ns =
    let v = last_vertex h.drawn in
    let e = length-append (take (length h.drawn.nodes - 1) h.drawn.nodes) (record v { sources = v.sources ++ ns } ∷ []) in
    omega (arith, e)

-- ---- antecedents

ante_to_last : (h : Held) (v : Vertex) (b : ℕ) → with_ante (with_last h v) b ≡ with_last h (record v { antes = v.antes ++ b ∷ [] })
ante_to_last h v b =
    let front = take (length h.drawn.nodes - 1) h.drawn.nodes in
    let one : with_ante (with_last h v) b ≡ record h { drawn = record h.drawn { nodes = set (front ++ v ∷ []) (length (front ++ v ∷ []) - 1) (record v { antes = v.antes ++ b ∷ [] }) } } =
    ap (λ (u : Vertex). let g : Held = record h { drawn = record h.drawn { nodes = set (front ++ v ∷ []) (length (front ++ v ∷ []) - 1) (record u { antes = u.antes ++ b ∷ [] }) } } in g) (last_is h v) in
    one ∙ ap (λ (ns : List Vertex). let g : Held = record h { drawn = record h.drawn { nodes = ns } } in g) (set_last front v (record v { antes = v.antes ++ b ∷ [] }))

-- one antecedent more
pub ante_more : (h : Held) (ns : List ℕ) (b : ℕ) → with_ante (with_antes h ns) b ≡ with_antes h (ns ++ b ∷ [])
unfolding with_antes
ante_more h ns b =
    let v = last_vertex h.drawn in
    ante_to_last h (record v { antes = v.antes ++ ns }) b ∙ ap (λ (xs : List ℕ). with_last h (record v { antes = xs })) (append_assoc v.antes ns (b ∷ []))

-- before the first antecedent
pub antes_none : (h : Held) → 0 < length h.drawn.nodes → with_antes h [] ≡ h
unfolding with_antes
antes_none h some =
    let v = last_vertex h.drawn in
    ap (λ (xs : List ℕ). with_last h (record v { antes = xs })) (append-nil v.antes) ∙ last_kept h some

pub antes_edges : (h : Held) (ns : List ℕ) → 0 < length h.drawn.nodes → edge_count (with_antes h ns).drawn ≡ edge_count h.drawn + length ns
unfolding with_antes
antes_edges h ns some =
    let v = last_vertex h.drawn in
    let e = edges_last h (record v { antes = v.antes ++ ns }) some in
    let l = length-append v.antes ns in
    omega (arith, e, l)

pub antes_room : (h : Held) (ns : List ℕ) → (with_antes h ns).edge_room ≡ h.edge_room
unfolding with_antes
antes_room h ns = refl

pub antes_some : (h : Held) (ns : List ℕ) → 0 < length (with_antes h ns).drawn.nodes
unfolding with_antes
antes_some h ns =
    let v = last_vertex h.drawn in
    let e = length-append (take (length h.drawn.nodes - 1) h.drawn.nodes) (record v { antes = v.antes ++ ns } ∷ []) in
    omega (arith, e)

-- ---- a whole node

new_last : (h : Held) (k : Node) → last_vertex (with_node h k).drawn ≡ record { kind = k; sources = []; antes = [] }
new_last h k = last_at h.drawn.nodes (record { kind = k; sources = []; antes = [] })

pub new_kind : (h : Held) (k : Node) → (last_vertex (with_node h k).drawn).kind ≡ k
new_kind h k = ap (λ (u : Vertex). u.kind) (new_last h k)

pub new_some : (h : Held) (k : Node) → 0 < length (with_node h k).drawn.nodes
new_some h k = let e = length-append h.drawn.nodes (record { kind = k; sources = []; antes = [] } ∷ []) in omega (arith, e)

pub new_edges : (h : Held) (k : Node) → edge_count (with_node h k).drawn ≡ edge_count h.drawn
new_edges h k = let e = edges_of h.drawn.nodes (record { kind = k; sources = []; antes = [] }) in omega (arith, e)

over_new : (h : Held) (k : Node) (v : Vertex) → with_last (with_node h k) v ≡ with_vertex h v
over_new h k v = ap (λ (ns : List Vertex). let g : Held = record h { drawn = record h.drawn { nodes = ns ++ v ∷ [] } } in g) (front_of h.drawn.nodes (record { kind = k; sources = []; antes = [] }))

-- a node, and then its sources and its antecedents
pub vertex_pushed : (h : Held) (k : Node) (ss aa : List ℕ) → with_antes (with_sources (with_node h k) ss) aa ≡ with_vertex h (record { kind = k; sources = ss; antes = aa })
unfolding with_sources with_antes
vertex_pushed h k ss aa =
    let n = with_node h k in
    let sourced : with_last n (record (last_vertex n.drawn) { sources = (last_vertex n.drawn).sources ++ ss }) ≡ with_last n (record { kind = k; sources = ss; antes = [] }) =
    ap (λ (u : Vertex). with_last n (record u { sources = u.sources ++ ss })) (new_last h k) in
    let v : Vertex = record { kind = k; sources = ss; antes = [] } in
    ap (λ (g : Held). with_last g (record (last_vertex g.drawn) { antes = (last_vertex g.drawn).antes ++ aa })) sourced
    ∙ (ap (λ (u : Vertex). with_last (with_last n v) (record u { antes = u.antes ++ aa })) (last_is n v)
    ∙ (last_again n v (record { kind = k; sources = ss; antes = aa }) ∙ over_new h k (record { kind = k; sources = ss; antes = aa })))

-- a list of numbers, one longer
pub take_more : (ns : List ℕ) (i : ℕ) → i < length ns → take i ns ++ get_or ns i 0 ∷ [] ≡ take (i + 1) ns
take_more ns i h = sym (take_at_read ns i 0 h).1
