-- Two graphs and a shift have one joined graph: the marks matter below the number of nodes alone.
use Rattle.std.proofs.Common.{◌≡◌, ◌∙◌, ℕ, zero, suc, ◌+◌, ◌<◌, ◌==◌, ◌&&◌, Bool, true, false, not, cond, if◌then◌else◌, List, [], ◌∷◌, ◌++◌, length, map, get_or, refl, sym, ap, subst, arith}
use Rattle.std.proofs.lemmas.List.Elements.{Contains-get_or}
use Rattle.graph_mean.specs.declared.graph.Node.{Node}
use Rattle.graph_mean.specs.declared.graph.Node.TheVariants.{Cmt, Trm}
use Rattle.graph_mean.specs.Graph.{View, Vertex, vertex_at}
use Rattle.graph_mean.specs.Ordered.{HasOneCommit, HasOneEnd}
use Rattle.graph_merge.specs.declared.half.Offsets.{Offsets}
use Rattle.graph_merge.specs.declared.half.Group.{Group}
use Rattle.graph_merge.specs.declared.half.Group.TheVariants.{Early, Rest}
use Rattle.graph_merge.specs.Form.{IsFormed}
use Rattle.graph_merge.specs.Joined.{Half, IsMarkedHalf, IsJoined, before, picked, is_in, place, moved_kind, moved_buf, moved_ret, node_of, joint, joined, first_offsets, second_offsets, group_of}
use Rattle.graph_merge.proofs.Forming.{descending}
use Rattle.graph_merge.proofs.Mapping.{map_same}
use Rattle.graph_merge.proofs.Words.{earlies, rests, is_late}

before_alike : (f g : ℕ → Bool) (n : ℕ) → ((k : ℕ) → k < n → f k ≡ g k) → before f n ≡ before g n
unfolding before
before_alike f g zero same = refl
before_alike f g (suc n) same =
    ap (λ (x : ℕ). x + cond (f n) 1 0) (before_alike f g n (λ k h. same k (omega arith)))
    ∙ ap (λ (b : Bool). before g n + cond b 1 0) (same n (omega arith))

picked_alike : {A : Type 0} → (f g : ℕ → Bool) (x y : ℕ → A) (n : ℕ) → ((k : ℕ) → k < n → f k ≡ g k) → ((k : ℕ) → k < n → x k ≡ y k) → picked f x n ≡ picked g y n
unfolding picked
picked_alike f g x y zero tests values = refl
picked_alike {A} f g x y (suc n) tests values =
    ap (λ (xs : List A). xs ++ cond (f n) (x n ∷ []) []) (picked_alike f g x y n (λ k h. tests k (omega arith)) (λ k h. values k (omega arith)))
    ∙ (ap (λ (b : Bool). picked g y n ++ cond b (x n ∷ []) []) (tests n (omega arith))
    ∙ ap (λ (v : A). picked g y n ++ cond (g n) (v ∷ []) []) (values n (omega arith)))

-- two tests that are true of the same
both_true : (x y : Bool) → (x ≡ true → y ≡ true) → (y ≡ true → x ≡ true) → x ≡ y
both_true true y f g = sym (f refl)
both_true false true f g = g refl
both_true false false f g = refl

abbrev with_late : Half → List Bool → Half
with_late h late = record { graph = h.graph; ends = h.ends; late = late }

-- ---- one half, by other marks that say the same of its nodes

module _ (h : Half) (late : List Bool) (formed : IsFormed h.graph h.ends.commit h.ends.end) (same : (k : ℕ) → k < length h.graph.nodes → is_late h.late k ≡ is_late late k) where
  in_alike : (group : Group) (k : ℕ) → k < length h.graph.nodes → is_in group h.ends h.late k ≡ is_in group h.ends late k
  in_alike Early k l = ap (λ (b : Bool). not b && not (k == h.ends.commit)) (same k l)
  in_alike Rest k l = ap (λ (b : Bool). b && not (k == h.ends.end)) (same k l)

  count_alike : (group : Group) (n : ℕ) → n < length h.graph.nodes + 1 → before (is_in group h.ends h.late) n ≡ before (is_in group h.ends late) n
  count_alike group n l = before_alike (is_in group h.ends h.late) (is_in group h.ends late) n (λ k u. in_alike group k (omega arith))

  place_alike : (o : Offsets) (n : ℕ) → n < length h.graph.nodes → place h o n ≡ place (with_late h late) o n
  unfolding place
  place_alike o n l =
      ap (λ (b : Bool). if n == h.ends.commit then o.commit else (if n == h.ends.end then o.end else (if b then o.rest + before (is_in Rest h.ends h.late) n else o.early + before (is_in Early h.ends h.late) n))) (same n l)
      ∙ (ap (λ (x : ℕ). if n == h.ends.commit then o.commit else (if n == h.ends.end then o.end else (if is_late late n then o.rest + x else o.early + before (is_in Early h.ends h.late) n))) (count_alike Rest n (omega arith))
      ∙ ap (λ (x : ℕ). if n == h.ends.commit then o.commit else (if n == h.ends.end then o.end else (if is_late late n then o.rest + before (is_in Rest h.ends late) n else o.early + x))) (count_alike Early n (omega arith)))

  antes_alike : (o : Offsets) (n : ℕ) → n < length h.graph.nodes → map (place h o) (vertex_at h.graph n).antes ≡ map (place (with_late h late) o) (vertex_at h.graph n).antes
  antes_alike o n within = map_same (place h o) (place (with_late h late) o) (vertex_at h.graph n).antes (λ k l.
      let low = descending h.graph formed.nodes n (get_or (vertex_at h.graph n).antes k 0) (Contains-get_or (vertex_at h.graph n).antes k 0 l) in
      place_alike o (get_or (vertex_at h.graph n).antes k 0) (omega arith))

  node_alike : (o : Offsets) (up n : ℕ) → n < length h.graph.nodes → node_of h o up n ≡ node_of (with_late h late) o up n
  unfolding node_of
  node_alike o up n l = ap (λ (xs : List ℕ). let v : Vertex = record { kind = moved_kind up (vertex_at h.graph n).kind; sources = map (λ (b : ℕ). b + up) (vertex_at h.graph n).sources; antes = xs } in v) (antes_alike o n l)

  group_alike : (group : Group) (o p : Offsets) (up : ℕ) → o ≡ p → group_of group h o up (length h.graph.nodes) ≡ group_of group (with_late h late) p up (length h.graph.nodes)
  group_alike group o p up e =
      picked_alike (is_in group h.ends h.late) (is_in group h.ends late) (node_of h o up) (node_of (with_late h late) o up) (length h.graph.nodes) (in_alike group) (node_alike o up)
      ∙ ap (λ (q : Offsets). group_of group (with_late h late) q up (length h.graph.nodes)) e

  all_alike : (o p : Offsets) (n : ℕ) → o ≡ p → n < length h.graph.nodes → map (place h o) (vertex_at h.graph n).antes ≡ map (place (with_late h late) p) (vertex_at h.graph n).antes
  all_alike o p n e l = antes_alike o n l ∙ ap (λ (q : Offsets). map (place (with_late h late) q) (vertex_at h.graph n).antes) e

  earlies_alike : earlies h ≡ earlies (with_late h late)
  earlies_alike = count_alike Early (length h.graph.nodes) (omega arith)

  rests_alike : rests h ≡ rests (with_late h late)
  rests_alike = count_alike Rest (length h.graph.nodes) (omega arith)

-- ---- both halves

module _ (a b : Half) (late_a late_b : List Bool) (fa : IsFormed a.graph a.ends.commit a.ends.end) (fb : IsFormed b.graph b.ends.commit b.ends.end)
    (sa : (k : ℕ) → k < length a.graph.nodes → is_late a.late k ≡ is_late late_a k) (sb : (k : ℕ) → k < length b.graph.nodes → is_late b.late k ≡ is_late late_b k) where
  abbrev other_a : Half
  other_a = with_late a late_a

  abbrev other_b : Half
  other_b = with_late b late_b

  first_alike : first_offsets a b ≡ first_offsets other_a other_b
  first_alike =
      let ea = earlies_alike a late_a fa sa in
      let eb = earlies_alike b late_b fb sb in
      let ra = rests_alike a late_a fa sa in
      let rb = rests_alike b late_b fb sb in
      let by : ℕ → ℕ → ℕ → ℕ → Offsets = λ x y z w. record { early = 0; rest = x + y + 1; commit = x + y; end = x + y + 1 + z + w } in
      ap (λ (x : ℕ). by x (earlies b) (rests a) (rests b)) ea ∙ (ap (λ (y : ℕ). by (earlies other_a) y (rests a) (rests b)) eb ∙ (ap (λ (z : ℕ). by (earlies other_a) (earlies other_b) z (rests b)) ra ∙ ap (by (earlies other_a) (earlies other_b) (rests other_a)) rb))

  second_alike : second_offsets a b ≡ second_offsets other_a other_b
  second_alike =
      let ea = earlies_alike a late_a fa sa in
      let eb = earlies_alike b late_b fb sb in
      let ra = rests_alike a late_a fa sa in
      let rb = rests_alike b late_b fb sb in
      let by : ℕ → ℕ → ℕ → ℕ → Offsets = λ x y z w. record { early = x; rest = x + y + 1 + z; commit = x + y; end = x + y + 1 + z + w } in
      ap (λ (x : ℕ). by x (earlies b) (rests a) (rests b)) ea ∙ (ap (λ (y : ℕ). by (earlies other_a) y (rests a) (rests b)) eb ∙ (ap (λ (z : ℕ). by (earlies other_a) (earlies other_b) z (rests b)) ra ∙ ap (by (earlies other_a) (earlies other_b) (rests other_a)) rb))

  joint_alike : (kind : Node) (n m : ℕ) → n < length a.graph.nodes → m < length b.graph.nodes → joint a b kind n m ≡ joint other_a other_b kind n m
  unfolding joint
  joint_alike kind n m ha hb =
      ap (λ (xs : List ℕ). let v : Vertex = record { kind = kind; sources = []; antes = xs ++ map (place b (second_offsets a b)) (vertex_at b.graph m).antes } in v) (all_alike a late_a fa sa (first_offsets a b) (first_offsets other_a other_b) n first_alike ha)
      ∙ ap (λ (ys : List ℕ). let v : Vertex = record { kind = kind; sources = []; antes = map (place other_a (first_offsets other_a other_b)) (vertex_at a.graph n).antes ++ ys } in v) (all_alike b late_b fb sb (second_offsets a b) (second_offsets other_a other_b) m second_alike hb)

  joined_alike : (shift : ℕ) → joined a b shift ≡ joined other_a other_b shift
  unfolding joined
  joined_alike shift =
      let up = length a.graph.bufs in
      let n1 = group_alike a late_a fa sa Early (first_offsets a b) (first_offsets other_a other_b) 0 first_alike in
      let n2 = group_alike b late_b fb sb Early (second_offsets a b) (second_offsets other_a other_b) up second_alike in
      let v1 = joint_alike Cmt a.ends.commit b.ends.commit fa.one_commit.below fb.one_commit.below in
      let n3 = group_alike a late_a fa sa Rest (first_offsets a b) (first_offsets other_a other_b) 0 first_alike in
      let n4 = group_alike b late_b fb sb Rest (second_offsets a b) (second_offsets other_a other_b) up second_alike in
      let v2 = joint_alike Trm a.ends.end b.ends.end fa.one_end.below fb.one_end.below in
      let nodes : (x1 y1 x2 y2 : List Vertex) (p q : Vertex) (x3 y3 x4 y4 : List Vertex) (r s : Vertex) → x1 ≡ y1 → x2 ≡ y2 → p ≡ q → x3 ≡ y3 → x4 ≡ y4 → r ≡ s → x1 ++ x2 ++ p ∷ [] ++ x3 ++ x4 ++ r ∷ [] ≡ y1 ++ y2 ++ q ∷ [] ++ y3 ++ y4 ++ s ∷ [] = λ x1 y1 x2 y2 p q x3 y3 x4 y4 r s d1 d2 d3 d4 d5 d6. cc in
      ap (λ (ns : List Vertex). let g : View = record { bufs = map (moved_buf 0) a.graph.bufs ++ map (moved_buf shift) b.graph.bufs; nodes = ns; rets = map (moved_ret 0) a.graph.rets ++ map (moved_ret up) b.graph.rets } in g)
      (nodes _ _ _ _ _ _ _ _ _ _ _ _ n1 n2 v1 n3 n4 v2)

-- ---- two halves of one graph

module _ (h k : Half) (marked : IsMarkedHalf h) (other : IsMarkedHalf k) (graph : k.graph ≡ h.graph) where
  commit_same : k.ends.commit ≡ h.ends.commit
  commit_same = let one = subst (λ (g : View). HasOneCommit g k.ends.commit) graph other.formed.one_commit in marked.formed.one_commit.only k.ends.commit one.below one.here

  end_same : k.ends.end ≡ h.ends.end
  end_same = let one = subst (λ (g : View). HasOneEnd g k.ends.end) graph other.formed.one_end in marked.formed.one_end.only k.ends.end one.below one.here

  -- they differ by their marks alone
  half_same : k ≡ with_late h k.late
  half_same =
      ap (λ (g : View). let x : Half = record { graph = g; ends = k.ends; late = k.late } in x) graph
      ∙ (ap (λ (c : ℕ). let x : Half = record { graph = h.graph; ends = record { commit = c; end = k.ends.end }; late = k.late } in x) commit_same
      ∙ ap (λ (e : ℕ). let x : Half = record { graph = h.graph; ends = record { commit = h.ends.commit; end = e }; late = k.late } in x) end_same)

  marks_same : (n : ℕ) → n < length h.graph.nodes → is_late h.late n ≡ is_late k.late n
  marks_same n l =
      let here = marked.late n l in
      let there = (subst IsMarkedHalf half_same other).late n l in
      both_true (is_late h.late n) (is_late k.late n) (λ t. there.1 (here.0 t)) (λ t. here.1 (there.0 t))

pub unique : (a b : View) (shift : ℕ) (out other : View) → IsJoined a b shift out → IsJoined a b shift other → out ≡ other
unique a b shift out other j k =
    let first : k.first.graph ≡ j.first.graph = k.of_first ∙ sym j.of_first in
    let second : k.second.graph ≡ j.second.graph = k.of_second ∙ sym j.of_second in
    let same = joined_alike j.first j.second k.first.late k.second.late j.first_marked.formed j.second_marked.formed
    (marks_same j.first k.first j.first_marked k.first_marked first)
    (marks_same j.second k.second j.second_marked k.second_marked second) shift in
    let one = ap (λ (h : Half). joined h k.second shift) (half_same j.first k.first j.first_marked k.first_marked first) in
    let two = ap (λ (h : Half). joined (with_late j.first k.first.late) h shift) (half_same j.second k.second j.second_marked k.second_marked second) in
    j.is ∙ (same ∙ (sym two ∙ (sym one ∙ sym k.is)))
