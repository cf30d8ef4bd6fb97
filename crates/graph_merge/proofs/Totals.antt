-- How a joined graph grows, and that it has room.
use Rattle.std.proofs.Common.{◌≡◌, ◌≢◌, ◌∙◌, inl, inr, ℕ, zero, suc, ◌+◌, ◌<◌, ◌≤◌, ◌↔◌, Bool, true, false, not, ◌==◌, ◌&&◌, cond, nat_lt, List, [], ◌∷◌, ◌++◌, length, take, map, get_or, refl, sym, ap, arith, length-append}
use Rattle.std.specs.List.{sum_by}
use Rattle.std.proofs.lemmas.Bool.{cases_lt, cases_eq, cases_Bool, true≢false}
use Rattle.std.proofs.lemmas.Bool.Decides.{nat_tests}
use Rattle.std.proofs.lemmas.List.{length-map, take_more, take_all}
use Rattle.std.proofs.lemmas.List.Sums.{sum_by-append}
use Rattle.graph_mean.specs.declared.graph.Buf.{Buf}
use Rattle.graph_mean.specs.declared.graph.Ret.{Ret}
use Rattle.graph_mean.specs.declared.graph.Node.{Node}
use Rattle.graph_mean.specs.declared.graph.Node.TheVariants.{Cmt, Trm}
use Rattle.graph_mean.specs.Graph.{View, Held, Vertex, vertex_at, kind_at, blank, edge_count, edges_at, with_node, Chain, Follows}
use Rattle.graph_check.specs.Following.{IsDescending}
use Rattle.graph_merge.specs.declared.half.Ends.{Ends}
use Rattle.graph_merge.specs.declared.half.Group.TheVariants.{Early, Rest}
use Rattle.graph_merge.specs.Grown.{Grows, with_antes, with_bufs, with_nodes, with_rets}
use Rattle.graph_merge.specs.Form.{IsFormed, IsTooLarge}
use Rattle.graph_merge.specs.Joined.{before, picked, is_in, moved_vertex, moved_group}
use Rattle.graph_merge.proofs.PushedNodes.{joint_pushed}
use Rattle.graph_merge.proofs.Forming.{descending}
use Rattle.graph_mean.proofs.Words.{no_vertex}

pub nodes_grow : (h g : Held) (xs : List Vertex) (n e : ℕ) → g ≡ with_nodes h xs → length xs ≡ n → sum_by edges_at xs ≡ e → Grows h g n e
nodes_grow h g xs n e is long edges = record {
  nodes = ap (λ (k : Held). length k.drawn.nodes) is ∙ (length-append h.drawn.nodes xs ∙ ap (λ (m : ℕ). length h.drawn.nodes + m) long);
  edges = ap (λ (k : Held). edge_count k.drawn) is ∙ (sum_by-append edges_at h.drawn.nodes xs ∙ ap (λ (m : ℕ). edge_count h.drawn + m) edges);
  node_room = ap (λ (k : Held). k.node_room) is;
  edge_room = ap (λ (k : Held). k.edge_room) is;
}

pub bufs_grow : (h g : Held) (xs : List Buf) → g ≡ with_bufs h xs → Grows h g 0 0
bufs_grow h g xs is = record {
  nodes = ap (λ (k : Held). length k.drawn.nodes) is ∙ omega arith;
  edges = ap (λ (k : Held). edge_count k.drawn) is ∙ omega arith;
  node_room = ap (λ (k : Held). k.node_room) is;
  edge_room = ap (λ (k : Held). k.edge_room) is;
}

pub rets_grow : (h g : Held) (xs : List Ret) → g ≡ with_rets h xs → Grows h g 0 0
rets_grow h g xs is = record {
  nodes = ap (λ (k : Held). length k.drawn.nodes) is ∙ omega arith;
  edges = ap (λ (k : Held). edge_count k.drawn) is ∙ omega arith;
  node_room = ap (λ (k : Held). k.node_room) is;
  edge_room = ap (λ (k : Held). k.edge_room) is;
}

pub joint_grows : (h g : Held) (kind : Node) (xs ys aa bb : List ℕ) (p q : ℕ → ℕ) → xs ≡ aa → ys ≡ bb → g ≡ with_antes (with_antes (with_node h kind) (map p xs)) (map q ys) → Grows h g 1 (length aa + length bb)
joint_grows h g kind xs ys aa bb p q a b is =
    let v : Vertex = record { kind = kind; sources = []; antes = map p xs ++ map q ys } in
    let la : length (map p xs) ≡ length aa = length-map xs p ∙ ap length a in
    let lb : length (map q ys) ≡ length bb = length-map ys q ∙ ap length b in
    let both : length (map p xs ++ map q ys) ≡ length (map p xs) + length (map q ys) = length-append (map p xs) (map q ys) in
    let one : sum_by edges_at (v ∷ []) ≡ length aa + length bb = omega arith in
    nodes_grow h g (v ∷ []) 1 (length aa + length bb) (is ∙ joint_pushed h kind (map p xs) (map q ys)) refl one

pub moved_edges : (p : ℕ → ℕ) (up : ℕ) (v : Vertex) → edges_at (moved_vertex p up v) ≡ edges_at v
moved_edges p up v =
    let a : length (map (λ (b : ℕ). b + up) v.sources) ≡ length v.sources = length-map v.sources (λ (b : ℕ). b + up) in
    let b : length (map p v.antes) ≡ length v.antes = length-map v.antes p in
    omega arith

-- the sum of w over those of the first n numbers that pass
weigh : (ℕ → Bool) → (ℕ → ℕ) → ℕ → ℕ
weigh test w zero = 0
weigh test w (suc n) = weigh test w n + cond (test n) (w n) 0

weigh_before : (test : ℕ → Bool) (n : ℕ) → weigh test (λ k. 1) n ≡ before test n
unfolding weigh before
weigh_before test zero = refl
weigh_before test (suc n) = let rest = weigh_before test n in omega arith

weigh_all : (n : ℕ) → weigh (λ k. true) (λ k. 1) n ≡ n
unfolding weigh
weigh_all zero = refl
weigh_all (suc n) = let rest = weigh_all n in omega arith

weigh_same : (test : ℕ → Bool) (w v : ℕ → ℕ) (n : ℕ) → ((k : ℕ) → w k ≡ v k) → weigh test w n ≡ weigh test v n
unfolding weigh
weigh_same test w v zero same = refl
weigh_same test w v (suc n) same = let rest = weigh_same test w v n same in let e : cond (test n) (w n) 0 ≡ cond (test n) (v n) 0 = ap (λ (x : ℕ). cond (test n) x 0) (same n) in omega arith

cond_edges : (b : Bool) (v : Vertex) → sum_by edges_at (cond b (v ∷ []) []) ≡ cond b (edges_at v) 0
cond_edges true v = omega arith
cond_edges false v = refl

weigh_picked : (test : ℕ → Bool) (f : ℕ → Vertex) (n : ℕ) → sum_by edges_at (picked test f n) ≡ weigh test (λ k. edges_at (f k)) n
unfolding weigh picked
weigh_picked test f zero = refl
weigh_picked test f (suc n) =
    let rest = weigh_picked test f n in
    let both = sum_by-append edges_at (picked test f n) (cond (test n) (f n ∷ []) []) in
    let last = cond_edges (test n) (f n) in
    omega arith

weigh_nodes : (ns : List Vertex) (n : ℕ) → n ≤ length ns → sum_by edges_at (take n ns) ≡ weigh (λ k. true) (λ k. edges_at (get_or ns k no_vertex)) n
unfolding weigh
weigh_nodes ns zero h = refl
weigh_nodes ns (suc n) h =
    let rest = weigh_nodes ns n (omega arith) in
    let more : take (suc n) ns ≡ take n ns ++ get_or ns n no_vertex ∷ [] = (let e : suc n ≡ n + 1 = omega arith in ap (λ (k : ℕ). take k ns) e) ∙ take_more ns n no_vertex (omega arith) in
    let both = ap (sum_by edges_at) more in
    let split = sum_by-append edges_at (take n ns) (get_or ns n no_vertex ∷ []) in
    let last = cond_edges true (get_or ns n no_vertex) in
    omega arith

upto_more : (x n w : ℕ) → cond {A = ℕ} (nat_lt x (suc n)) w 0 ≡ cond (nat_lt x n) w 0 + cond (n == x) w 0
upto_more x n w = grind (arith, nat_tests)

upto_all : (x n w : ℕ) → x < n → cond {A = ℕ} (nat_lt x n) w 0 ≡ w
upto_all x n w h = grind (arith, nat_tests)

upto_none : (x w : ℕ) → cond {A = ℕ} (nat_lt x 0) w 0 ≡ 0
upto_none x w = grind (arith, nat_tests)

-- each number is in one group, or the commit or the terminator
in_one : (b : Bool) (k c e w wc we : ℕ) → c ≢ e → (k ≡ c → b ≡ false) → (k ≡ e → b ≡ true) → (k ≡ c → w ≡ wc) → (k ≡ e → w ≡ we)
    → (cond {A = ℕ} (not b && not (k == c)) w 0 + cond (b && not (k == e)) w 0) + (cond (k == c) wc 0 + cond (k == e) we 0) ≡ w
in_one true k c e w wc we apart of_c of_e same_c same_e = elim (cases_eq k c) [
  | inl is ↦ absurd (true≢false (of_c is))
  | inr other ↦ elim (cases_eq k e) [ inl is ↦ let w' = same_e is in grind (arith, nat_tests) | inr more ↦ grind (arith, nat_tests) ]
]
in_one false k c e w wc we apart of_c of_e same_c same_e = elim (cases_eq k e) [
  | inl is ↦ absurd (true≢false (sym (of_e is)))
  | inr other ↦ elim (cases_eq k c) [ inl is ↦ let w' = same_c is in grind (arith, nat_tests) | inr more ↦ grind (arith, nat_tests) ]
]

module _ (g : View) (ends : Ends) (late : List Bool) (formed : IsFormed g ends.commit ends.end) (marks : (n : ℕ) → n < length g.nodes → (get_or late n false ≡ true) ↔ Follows g n ends.commit) where
  chain-le : IsDescending g → (n a b : ℕ) → Chain g n a b → b ≤ a
  chain-le order zero a b h = let h' : a ≡ b = h in omega arith
  chain-le order (suc n) a b h = let l : h.0 < a = order a h.0 h.1 in let m : b ≤ h.0 = chain-le order n h.0 b h.2 in omega arith

  pub follows_up : (a b : ℕ) → Follows g a b → b < a
  follows_up a b h = let order = descending g formed.nodes in let l : h.1.0 < a = order a h.1.0 h.1.1 in let m : b ≤ h.1.0 = chain-le order h.0 h.1.0 b h.1.2 in omega arith

  pub ends_apart : ends.commit ≢ ends.end
  ends_apart same = let k : Cmt ≡ Trm = sym formed.one_commit.here ∙ (ap (kind_at g) same ∙ formed.one_end.here) in cc

  pub commit_early : get_or late ends.commit false ≡ false
  commit_early = elim (cases_Bool (get_or late ends.commit false)) [
    | inl t ↦ let up = follows_up ends.commit ends.commit ((marks ends.commit formed.one_commit.below).0 t) in absurd (omega arith)
    | inr f ↦ f
  ]

  pub end_late : get_or late ends.end false ≡ true
  end_late = (marks ends.end formed.one_end.below).1 (formed.one_end.follows ends.commit formed.one_commit.below ends_apart)

  -- the groups, the commit and the terminator are all
  weigh_split : (w : ℕ → ℕ) (n : ℕ) → (weigh (is_in Early ends late) w n + weigh (is_in Rest ends late) w n) + (cond (nat_lt ends.commit n) (w ends.commit) 0 + cond (nat_lt ends.end n) (w ends.end) 0) ≡ weigh (λ k. true) w n
  unfolding weigh
  weigh_split w zero = let a = upto_none ends.commit (w ends.commit) in let b = upto_none ends.end (w ends.end) in omega arith
  weigh_split w (suc n) =
      let rest = weigh_split w n in
      let a = upto_more ends.commit n (w ends.commit) in
      let b = upto_more ends.end n (w ends.end) in
      let here = in_one (get_or late n false) n ends.commit ends.end (w n) (w ends.commit) (w ends.end) ends_apart (λ e. ap (λ (k : ℕ). get_or late k false) e ∙ commit_early) (λ e. ap (λ (k : ℕ). get_or late k false) e ∙ end_late) (λ e. ap w e) (λ e. ap w e) in
      omega arith

  pub total_nodes : before (is_in Early ends late) (length g.nodes) + before (is_in Rest ends late) (length g.nodes) + 2 ≡ length g.nodes
  total_nodes =
      let all = weigh_split (λ k. 1) (length g.nodes) in
      let a = weigh_before (is_in Early ends late) (length g.nodes) in
      let b = weigh_before (is_in Rest ends late) (length g.nodes) in
      let c = upto_all ends.commit (length g.nodes) 1 formed.one_commit.below in
      let d = upto_all ends.end (length g.nodes) 1 formed.one_end.below in
      let n = weigh_all (length g.nodes) in
      omega arith

  -- and so are their sources and antecedents, of nodes that have as many
  pub group_edges : (f : ℕ → Vertex) → ((k : ℕ) → edges_at (f k) ≡ edges_at (vertex_at g k)) → (sum_by edges_at (picked (is_in Early ends late) f (length g.nodes)) + sum_by edges_at (picked (is_in Rest ends late) f (length g.nodes))) + (length (vertex_at g ends.commit).antes + length (vertex_at g ends.end).antes) ≤ edge_count g
  group_edges f alike =
      let w : ℕ → ℕ = λ k. edges_at (vertex_at g k) in
      let all = weigh_split w (length g.nodes) in
      let a = weigh_picked (is_in Early ends late) f (length g.nodes) in
      let b = weigh_picked (is_in Rest ends late) f (length g.nodes) in
      let a' = weigh_same (is_in Early ends late) (λ k. edges_at (f k)) w (length g.nodes) alike in
      let b' = weigh_same (is_in Rest ends late) (λ k. edges_at (f k)) w (length g.nodes) alike in
      let c = upto_all ends.commit (length g.nodes) (w ends.commit) formed.one_commit.below in
      let d = upto_all ends.end (length g.nodes) (w ends.end) formed.one_end.below in
      let n = weigh_nodes g.nodes (length g.nodes) (omega arith) in
      let whole = ap (sum_by edges_at) (take_all (length g.nodes) g.nodes (omega arith)) in
      omega arith

  pub total_edges : (places : List ℕ) (up : ℕ) → (sum_by edges_at (moved_group g Early ends late up places (length g.nodes)) + sum_by edges_at (moved_group g Rest ends late up places (length g.nodes))) + (length (vertex_at g ends.commit).antes + length (vertex_at g ends.end).antes) ≤ edge_count g
  total_edges places up =
      let p : ℕ → ℕ = λ a. get_or places a 0 in
      group_edges (λ k. moved_vertex p up (vertex_at g k)) (λ k. moved_edges p up (vertex_at g k))

-- what two graphs that aren't too large have together
pub nodes_few : (a b : View) → ¬ (IsTooLarge a b) → length a.nodes + length b.nodes ≤ 2050
nodes_few a b small = elim (cases_lt 2050 (length a.nodes + length b.nodes)) [ inl many ↦ absurd (small (inl many)) | inr few ↦ few ]

pub edges_few : (a b : View) → ¬ (IsTooLarge a b) → edge_count a + edge_count b ≤ 16384
edges_few a b small = elim (cases_lt 16384 (edge_count a + edge_count b)) [ inl many ↦ absurd (small (inr (inr (inr many)))) | inr few ↦ few ]

pub bufs_few : (a b : View) → ¬ (IsTooLarge a b) → length a.bufs + length b.bufs ≤ 2048
bufs_few a b small = elim (cases_lt 2048 (length a.bufs + length b.bufs)) [ inl many ↦ absurd (small (inr (inl many))) | inr few ↦ few ]

pub rets_few : (a b : View) → ¬ (IsTooLarge a b) → length a.rets + length b.rets ≤ 2048
rets_few a b small = elim (cases_lt 2048 (length a.rets + length b.rets)) [ inl many ↦ absurd (small (inr (inr (inl many)))) | inr few ↦ few ]

-- a graph of nothing
pub blank_nodes : (h : Held) → h.drawn ≡ blank → length h.drawn.nodes ≡ 0
blank_nodes h e = ap (λ (g : View). length g.nodes) e

pub blank_edges : (h : Held) → h.drawn ≡ blank → edge_count h.drawn ≡ 0
blank_edges h e = ap edge_count e

-- neither of two graphs that are formed and not too large together has more nodes than an operation may have
pub two_nodes : (g : View) (c e : ℕ) → IsFormed g c e → 2 ≤ length g.nodes
two_nodes g c e formed =
    let a = formed.one_commit.below in
    let b = formed.one_end.below in
    let apart : c ≢ e = λ same. let k : Cmt ≡ Trm = sym formed.one_commit.here ∙ (ap (kind_at g) same ∙ formed.one_end.here) in cc in
    elim (cases_lt (length g.nodes) 2) [ inl few ↦ absurd (apart (omega arith)) | inr some ↦ some ]
