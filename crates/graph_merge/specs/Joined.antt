-- Two graphs joined under one commit.
use Rattle.std.specs.Prelude.{◌≡◌, ℕ, zero, suc, ◌+◌, ◌<◌, ◌↔◌, ◌==◌, ◌&&◌, Bool, true, false, not, List, [], ◌∷◌, ◌++◌, length, map, slice_index, slice_index_or, cond, if◌then◌else◌, ◌≤◌}
use Rattle.graph_mean.specs.declared.graph.Buf.{Buf}
use Rattle.graph_mean.specs.declared.graph.Ret.{Ret}
use Rattle.graph_mean.specs.declared.graph.Node.{Node}
use Rattle.graph_mean.specs.declared.graph.Node.TheVariants.{Rd, Wr, Xor, Cmt, Trm}
use Rattle.graph_mean.specs.Graph.{View, Vertex, vertex_at, Follows}
use Rattle.graph_merge.specs.declared.half.Ends.{Ends}
use Rattle.graph_merge.specs.declared.half.Group.{Group}
use Rattle.graph_merge.specs.declared.half.Group.TheVariants.{Early, Rest}
use Rattle.graph_merge.specs.declared.half.Offsets.{Offsets}
use Rattle.graph_merge.specs.Form.{IsFormed, IsTooLarge}
use Rattle.graph_mean.specs.Steps.{stripe_of}

-- one of the two graphs, with its commit and its terminator, and for each node whether it follows the commit
pub record Half : Type 0 where
  pub graph : View
  pub ends : Ends
  pub late : List Bool

-- a node is in a group of its half: it doesn't follow the commit and isn't it; or it follows it and isn't the terminator
abbrev pub is_in : Group → Ends → List Bool → ℕ → Bool
is_in Early ends late n = not (slice_index_or late n false) && not (n == ends.commit)
is_in Rest ends late n = slice_index_or late n false && not (n == ends.end)

-- how many of the first n numbers pass
unfoldable pub before : (ℕ → Bool) → ℕ → ℕ
before test zero = 0
before test (suc n) = before test n + cond (test n) 1 0

-- what f makes of those of the first n numbers that pass, in their order
unfoldable pub picked : {A : Type 0} → (ℕ → Bool) → (ℕ → A) → ℕ → List A
picked test f zero = []
picked test f (suc n) = picked test f n ++ cond (test n) (f n ∷ []) []

-- the numbers of a half's nodes in the joined graph: those of its early nodes and of its others go on from an offset
unfoldable pub place : Half → Offsets → ℕ → ℕ
place h o n =
    if n == h.ends.commit then o.commit
    else (if n == h.ends.end then o.end
    else (if slice_index_or h.late n false then o.rest + before (is_in Rest h.ends h.late) n
    else o.early + before (is_in Early h.ends h.late) n))

-- a node, with its buffers moved up
abbrev pub moved_kind : ℕ → Node → Node
moved_kind up (Rd unit buf) = Rd unit (buf + up)
moved_kind up (Wr unit buf) = Wr unit (buf + up)
moved_kind up (Xor to) = Xor (to + up)
moved_kind up Cmt = Cmt
moved_kind up Trm = Trm

-- the buffer that a node of this kind names has a number below the bound once it is moved up
abbrev pub IsMovableNode : ℕ → Node → Type 0
IsMovableNode up (Rd unit buf) = buf + up < 4294967296
IsMovableNode up (Wr unit buf) = buf + up < 4294967296
IsMovableNode up (Xor to) = to + up < 4294967296
IsMovableNode up Cmt = Unit {0}
IsMovableNode up Trm = Unit {0}

abbrev pub moved_buf : ℕ → Buf → Buf
moved_buf shift b = record b { stripe = b.stripe + shift }

abbrev pub moved_ret : ℕ → Ret → Ret
moved_ret up r = record r { buf = r.buf + up }

-- a node with its buffers moved up, and its antecedents by their places
abbrev pub moved_vertex : (ℕ → ℕ) → ℕ → Vertex → Vertex
moved_vertex place up v = record { kind = moved_kind up v.kind; sources = map (λ b. b + up) v.sources; antes = map place v.antes }

-- node n of a half in the joined graph
unfoldable pub node_of : Half → Offsets → ℕ → ℕ → Vertex
node_of h o up n =
    let v = vertex_at h.graph n in
    record { kind = moved_kind up v.kind; sources = map (λ b. b + up) v.sources; antes = map (place h o) v.antes }

abbrev pub joint_by_tables : View → ℕ → List ℕ → View → ℕ → List ℕ → Node → Vertex
joint_by_tables a n places_a b m places_b kind = record { kind = kind; sources = []; antes = map (λ k. slice_index places_a k) (vertex_at a n).antes ++ map (λ k. slice_index places_b k) (vertex_at b m).antes }

-- the nodes of a half that are in a group, as they stand in the joined graph
abbrev pub group_of : Group → Half → Offsets → ℕ → ℕ → List Vertex
group_of group h o up n = picked (is_in group h.ends h.late) (node_of h o up) n

-- the same, where a table has the places
abbrev pub moved_group : View → Group → Ends → List Bool → ℕ → List ℕ → ℕ → List Vertex
moved_group g group ends late up places n = picked (is_in group ends late) (λ k. moved_vertex (λ a. slice_index places a) up (vertex_at g k)) n

-- how many nodes of a half are in a group
abbrev pub count_in : Group → Half → ℕ
count_in group h = before (is_in group h.ends h.late) (length h.graph.nodes)

-- the numbers of the one commit and of the one terminator
abbrev pub commit_place : Half → Half → ℕ
commit_place a b = count_in Early a + count_in Early b

-- from where the nodes of the two halves are numbered
abbrev pub first_offsets : Half → Half → Offsets
first_offsets a b = record { early = 0; rest = commit_place a b + 1; commit = commit_place a b; end = commit_place a b + 1 + count_in Rest a + count_in Rest b }

abbrev pub second_offsets : Half → Half → Offsets
second_offsets a b = record {
  early = count_in Early a;
  rest = commit_place a b + 1 + count_in Rest a;
  commit = commit_place a b;
  end = commit_place a b + 1 + count_in Rest a + count_in Rest b;
}

-- a node of this kind that has the antecedents of node n of one half and of node m of the other
unfoldable pub joint : Half → Half → Node → ℕ → ℕ → Vertex
joint a b kind n m = record { kind = kind; sources = []; antes = map (place a (first_offsets a b)) (vertex_at a.graph n).antes ++ map (place b (second_offsets a b)) (vertex_at b.graph m).antes }

-- the same, where tables have the places
abbrev pub joined_by_tables : View → Ends → List Bool → List ℕ → View → Ends → List Bool → List ℕ → ℕ → View
joined_by_tables a ends_a late_a places_a b ends_b late_b places_b shift = record {
  bufs = map (moved_buf 0) a.bufs ++ map (moved_buf shift) b.bufs;
  nodes = moved_group a Early ends_a late_a 0 places_a (length a.nodes) ++ moved_group b Early ends_b late_b (length a.bufs) places_b (length b.nodes) ++ joint_by_tables a ends_a.commit places_a b ends_b.commit places_b Cmt ∷ [] ++ moved_group a Rest ends_a late_a 0 places_a (length a.nodes) ++ moved_group b Rest ends_b late_b (length a.bufs) places_b (length b.nodes) ++ joint_by_tables a ends_a.end places_a b ends_b.end places_b Trm ∷ [];
  rets = map (moved_ret 0) a.rets ++ map (moved_ret (length a.bufs)) b.rets;
}

-- the joined graph: the early nodes of both, one commit, the others of both, one terminator
unfoldable pub joined : Half → Half → ℕ → View
joined a b shift = record {
  bufs = map (moved_buf 0) a.graph.bufs ++ map (moved_buf shift) b.graph.bufs;
  nodes = group_of Early a (first_offsets a b) 0 (length a.graph.nodes) ++ group_of Early b (second_offsets a b) (length a.graph.bufs) (length b.graph.nodes) ++ joint a b Cmt a.ends.commit b.ends.commit ∷ [] ++ group_of Rest a (first_offsets a b) 0 (length a.graph.nodes) ++ group_of Rest b (second_offsets a b) (length a.graph.bufs) (length b.graph.nodes) ++ joint a b Trm a.ends.end b.ends.end ∷ [];
  rets = map (moved_ret 0) a.graph.rets ++ map (moved_ret (length a.graph.bufs)) b.graph.rets;
}

-- the marks are right
pub record IsMarkedHalf (h : Half) : Type 0 where
  pub formed : IsFormed h.graph h.ends.commit h.ends.end
  pub late : (n : ℕ) → n < length h.graph.nodes → (slice_index_or h.late n false ≡ true) ↔ Follows h.graph n h.ends.commit

-- out is a joined with b
pub record IsJoined (a b : View) (shift : ℕ) (out : View) : Type 0 where
  pub first : Half
  pub second : Half
  pub of_first : first.graph ≡ a
  pub of_second : second.graph ≡ b
  pub first_marked : IsMarkedHalf first
  pub second_marked : IsMarkedHalf second
  pub first_below : (n : ℕ) → n < length a.bufs → stripe_of a n < shift
  pub second_movable : (n : ℕ) → n < length b.bufs → stripe_of b n + shift ≤ 4294967295
  pub small : ¬ (IsTooLarge a b)
  pub is : out ≡ joined first second shift
