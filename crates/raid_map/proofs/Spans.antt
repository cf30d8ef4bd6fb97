-- Regions that are marked for stripes, one after the other.
use Rattle.std.proofs.Common.{◌≡◌, ◌≢◌, ◌∙◌, ◌⊎◌, ℕ, ◌+◌, ◌<◌, ◌≤◌, true, false, List, length, Some, slice_get, refl, sym, ap, subst, inl, inr, arith}
use Rattle.std.specs.Prelude.{Result, Ok, Err, Contains, slice_set}
use Rattle.std.proofs.lemmas.Bool.{cases_eq, cases_lt}
use Rattle.std.proofs.lemmas.List.{get_or-set_other, length-set, get_or_past}
use Rattle.std.proofs.lemmas.Option.{slice_get-get_or, slice_get_within}
use Rattle.blk_plain.specs.declared.op.Op.TheVariants as op
use Rattle.blk_plain.specs.declared.op.Patches.{Patches}
use Rattle.blk_plain.specs.declared.op.Span.{Span}
use Rattle.blk_plain.specs.Plain.{spans_of, is_in, is_in_some}
use Rattle.lay_core.specs.Layout.{Shape}
use Rattle.lay_core.specs.Touched.{Touched, PassesEnd, PassesEndSome, IsSplit, stripe_count, stripes_among}
use Rattle.graph_mean.specs.declared.graph.Node.{Node}
use Rattle.graph_mean.specs.declared.graph.Node.TheVariants.{Rd, Wr, Xor, Cmt, Trm}
use Rattle.graph_mean.specs.Graph.{View, Vertex, kind_at}
use Rattle.eng_world.specs.declared.item.Item.{Item}
use Rattle.item_list.specs.ItemList.{ItemList}
use Rattle.raid_map.specs.Regions.{region_of, Marks, is_marked}
use Rattle.raid_map.specs.Mapped.{HasWrite}
use Rattle.raid_map.specs.Asking.{node_writes, MayWriteIn, SomeMayWrite, ScriptMayWrite, Reaches, MarksAlso}
use Rattle.graph_mean.proofs.Words.{no_vertex}

-- what came well wasn't refused
pub split-not-refused : {T E : Type 0} {r : Result T E} {x : T} {e : E} → r ≡ Ok x → r ≡ Err e → ⊥
split-not-refused {x = x} {e = e} ok bad = let z : Ok x ≡ Err e = sym ok ∙ bad in let u : ⊥ = cc in u

some-same : {X : Type 0} {a b : X} → Some a ≡ Some b → a ≡ b
some-same h = cc

-- ## Graphs

-- no node below n is a write
pub quiet-graph : (g : View) → ((k : ℕ) → k < length g.nodes → node_writes (kind_at g k) ≡ false) → HasWrite g → ⊥
quiet-graph g none h = elim (cases_lt h.0 (length g.nodes)) [
  | inl lt ↦ let z : true ≡ false = ap node_writes (sym h.3) ∙ none h.0 lt in let u : ⊥ = cc in u
  | inr far ↦ let z : no_vertex.kind ≡ Wr h.1 h.2 = ap (λ (v : Vertex). v.kind) (sym (get_or_past g.nodes h.0 no_vertex far)) ∙ h.3 in let u : ⊥ = cc in u
]

pub write-graph : (g : View) (k : ℕ) → node_writes (kind_at g k) ≡ true → HasWrite g
write-graph g k h = go (kind_at g k) refl h
  where
    go : (node : Node) → kind_at g k ≡ node → node_writes node ≡ true → HasWrite g
    go (Wr unit buf) is h = (k, unit, buf, is)
    go (Rd unit buf) is h = absurd (let u : ⊥ = cc in u)
    go (Xor to) is h = absurd (let u : ⊥ = cc in u)
    go Cmt is h = absurd (let u : ⊥ = cc in u)
    go Trm is h = absurd (let u : ⊥ = cc in u)

-- ## Marks

-- nothing is marked
pub also-none : (stripes : ℕ → Type 0) (old : Marks) → ((s : ℕ) → s < old.stripes → stripes s → ⊥) → MarksAlso stripes old old
also-none stripes old none = record {
  stripes_same = refl;
  serial = refl;
  count = refl;
  marks = λ r. ((λ is. inl is), (λ h. elim h [ inl is ↦ is | inr z ↦ absurd (none z.0 z.1 z.2) ]));
}

-- one stripe's region is
pub also-one : (old new : Marks) (s : ℕ) → s < old.stripes → new ≡ record old { marks = slice_set old.marks (region_of old.stripes s) true } → is_marked new.marks (region_of old.stripes s) ≡ true → MarksAlso (λ t. t ≡ s) old new
also-one old new s within is marked = record {
  stripes_same = ap (λ (m : Marks). m.stripes) is;
  serial = ap (λ (m : Marks). m.serial) is;
  count = ap (λ (m : Marks). length m.marks) is ∙ length-set old.marks (region_of old.stripes s) true;
  marks = λ r. (
    (λ m. elim (cases_eq r (region_of old.stripes s)) [
      | inl e ↦ inr (s, within, refl, sym e)
      | inr ne ↦ inl (sym (other r ne) ∙ m)
    ]),
    (λ h. elim (cases_eq r (region_of old.stripes s)) [
      | inl e ↦ ap (is_marked new.marks) e ∙ marked
      | inr ne ↦ elim h [
        | inl m ↦ other r ne ∙ m
        | inr z ↦ absurd (ne (sym z.3 ∙ ap (region_of old.stripes) z.2))
      ]
    ]),
  );
}
  where
    other : (r : ℕ) → r ≢ region_of old.stripes s → is_marked new.marks r ≡ is_marked old.marks r
    other r ne = ap (λ (m : Marks). is_marked m.marks r) is ∙ get_or-set_other old.marks (region_of old.stripes s) r true false ne

-- the same stripes otherwise said
pub also-same : (these those : ℕ → Type 0) (old new : Marks) → ((s : ℕ) → s < old.stripes → these s → those s) → ((s : ℕ) → s < old.stripes → those s → these s) → MarksAlso these old new → MarksAlso those old new
also-same these those old new to back m = record {
  stripes_same = m.stripes_same;
  serial = m.serial;
  count = m.count;
  marks = λ r. (
    (λ is. elim ((m.marks r).0 is) [ inl h ↦ inl h | inr z ↦ inr (z.0, z.1, to z.0 z.1 z.2, z.3) ]),
    (λ h. elim h [ inl is ↦ (m.marks r).1 (inl is) | inr z ↦ (m.marks r).1 (inr (z.0, z.1, back z.0 z.1 z.2, z.3)) ]),
  );
}

-- and then others
pub also-then : (these those : ℕ → Type 0) (a b c : Marks) → MarksAlso these a b → MarksAlso those b c → MarksAlso (λ s. these s ⊎ those s) a c
also-then these those a b c one two = record {
  stripes_same = two.stripes_same ∙ one.stripes_same;
  serial = two.serial ∙ one.serial;
  count = two.count ∙ one.count;
  marks = λ r. (to r, back r);
}
  where
    Or : (ℕ → Type 0) → Marks → ℕ → Type 0
    Or stripes m r = (is_marked m.marks r ≡ true) ⊎ ((s : ℕ) × (s < m.stripes) × stripes s × (region_of m.stripes s ≡ r))

    Both : ℕ → Type 0
    Both s = these s ⊎ those s

    to : (r : ℕ) → is_marked c.marks r ≡ true → Or Both a r
    to r is = elim ((two.marks r).0 is) [
      | inl h ↦ elim ((one.marks r).0 h) [ inl k ↦ inl k | inr z ↦ inr (z.0, z.1, inl z.2, z.3) ]
      | inr z ↦ inr (z.0, subst (λ n. z.0 < n) one.stripes_same z.1, inr z.2, sym (ap (λ n. region_of n z.0) one.stripes_same) ∙ z.3)
    ]

    of-stripe : (r s : ℕ) → s < a.stripes → region_of a.stripes s ≡ r → Both s → is_marked c.marks r ≡ true
    of-stripe r s within is (inl z) = (two.marks r).1 (inl ((one.marks r).1 (inr (s, within, z, is))))
    of-stripe r s within is (inr z) = (two.marks r).1 (inr (s, subst (λ n. s < n) (sym one.stripes_same) within, z, ap (λ n. region_of n s) one.stripes_same ∙ is))

    back : (r : ℕ) → Or Both a r → is_marked c.marks r ≡ true
    back r (inl is) = (two.marks r).1 (inl ((one.marks r).1 (inl is)))
    back r (inr z) = of-stripe r z.0 z.1 z.3 z.2

-- ## Lists

-- the stripes of the first n entries, where each entry has some
abbrev pub FirstOnes : {X : Type 0} → (X → ℕ → Type 0) → List X → ℕ → ℕ → Type 0
FirstOnes {X} stripes xs n s = (k : ℕ) × (x : X) × (k < n) × (slice_get xs k ≡ Some x) × stripes x s

pub firsts-none : {X : Type 0} (stripes : X → ℕ → Type 0) (xs : List X) (old : Marks) → MarksAlso (FirstOnes stripes xs 0) old old
firsts-none stripes xs old = also-none (FirstOnes stripes xs 0) old (λ s within h. let b = h.2 in omega (arith, b))

pub firsts-more : {X : Type 0} (stripes : X → ℕ → Type 0) (xs : List X) (n : ℕ) (x : X) (a b c : Marks) → slice_get xs n ≡ Some x → MarksAlso (FirstOnes stripes xs n) a b → MarksAlso (stripes x) b c → MarksAlso (FirstOnes stripes xs (n + 1)) a c
firsts-more stripes xs n x a b c is one two =
    also-same (λ s. FirstOnes stripes xs n s ⊎ stripes x s) (FirstOnes stripes xs (n + 1)) a c to back (also-then (FirstOnes stripes xs n) (stripes x) a b c one two)
  where
    to : (s : ℕ) → s < a.stripes → FirstOnes stripes xs n s ⊎ stripes x s → FirstOnes stripes xs (n + 1) s
    to s within (inl h) = (h.0, h.1, (let b = h.2 in omega (arith, b)), h.3, h.4)
    to s within (inr h) = (n, x, omega arith, is, h)

    back : (s : ℕ) → s < a.stripes → FirstOnes stripes xs (n + 1) s → FirstOnes stripes xs n s ⊎ stripes x s
    back s within h = elim (cases_lt h.0 n) [
      | inl lt ↦ inl (h.0, h.1, lt, h.3, h.4)
      | inr le ↦
          let b = h.2 in
          let e : h.0 ≡ n = omega (arith, b, le) in
          inr (subst (λ z. stripes z s) (some-same (sym h.3 ∙ ap (slice_get xs) e ∙ is)) h.4)
    ]

pub firsts-contain : (xs : List ℕ) (old new : Marks) → MarksAlso (FirstOnes (λ x s. s ≡ x) xs (length xs)) old new → MarksAlso (Contains xs) old new
firsts-contain xs old new m = also-same (FirstOnes (λ x s. s ≡ x) xs (length xs)) (Contains xs) old new to back m
  where
    to : (s : ℕ) → s < old.stripes → FirstOnes (λ x s. s ≡ x) xs (length xs) s → Contains xs s
    to s within h = (h.0, h.2, some-same (sym (slice_get-get_or xs h.0 s h.2) ∙ h.3) ∙ sym h.4)

    back : (s : ℕ) → s < old.stripes → Contains xs s → FirstOnes (λ x s. s ≡ x) xs (length xs) s
    back s within h = (h.0, s, h.1, slice_get-get_or xs h.0 s h.1 ∙ ap Some h.2, refl)

pub firsts-items : (y : Shape) (file : ℕ → View) (items : List Item) (old new : Marks) → MarksAlso (FirstOnes (MayWriteIn y file) items (length items)) old new → MarksAlso (SomeMayWrite y file items) old new
firsts-items y file items old new m =
    also-same (FirstOnes (MayWriteIn y file) items (length items)) (SomeMayWrite y file items) old new (λ s within h. (h.0, h.1, h.3, h.4)) (λ s within h. (h.0, h.1, slice_get_within items h.0 h.1 h.2, h.2, h.3)) m

pub firsts-clients : (y : Shape) (file : ℕ → View) (clients : List ItemList) (old new : Marks) → MarksAlso (FirstOnes (λ (v : ItemList). SomeMayWrite y file v.items) clients (length clients)) old new → MarksAlso (ScriptMayWrite y file clients) old new
firsts-clients y file clients old new m =
    also-same (FirstOnes (λ (v : ItemList). SomeMayWrite y file v.items) clients (length clients)) (ScriptMayWrite y file clients) old new (λ s within h. (h.0, h.1, h.3, h.4)) (λ s within h. (h.0, h.1, slice_get_within clients h.0 h.1 h.2, h.2, h.3)) m

-- ## Operations

pub span-split : (y : Shape) (span : Span) (m : Touched) (old new : Marks) → old.stripes ≡ y.stripes → IsSplit y (is_in span) m → (PassesEnd y span → ⊥) → stripe_count y span ≤ 16 → MarksAlso (Contains m.stripes) old new → MarksAlso (Reaches y (op.Read span)) old new
span-split y span m old new same s inside short marks =
    also-same (Contains m.stripes) (Reaches y (op.Read span)) old new
    (λ t within h. ((inside, λ long. omega (arith, long, short)), (s.stripes_touched t (subst (λ n. t < n) same within)).0 h))
    (λ t within h. (s.stripes_touched t (subst (λ n. t < n) same within)).1 h.1) marks

pub spans-split : (y : Shape) (patches : Patches) (m : Touched) (old new : Marks) → old.stripes ≡ y.stripes → IsSplit y (is_in_some (spans_of patches)) m → (PassesEndSome y (spans_of patches) → ⊥) → (16 < stripes_among y (is_in_some (spans_of patches)) → ⊥) → MarksAlso (Contains m.stripes) old new → MarksAlso (Reaches y (op.Writes patches)) old new
spans-split y patches m old new same s inside short marks =
    also-same (Contains m.stripes) (Reaches y (op.Writes patches)) old new
    (λ t within h. ((inside, short), (s.stripes_touched t (subst (λ n. t < n) same within)).0 h))
    (λ t within h. (s.stripes_touched t (subst (λ n. t < n) same within)).1 h.1) marks

pub stripe-sync : (y : Shape) (stripe : ℕ) (old new : Marks) → stripe < y.stripes → MarksAlso (λ t. t ≡ stripe) old new → MarksAlso (Reaches y (op.Sync stripe)) old new
stripe-sync y stripe old new within marks =
    also-same (λ t. t ≡ stripe) (Reaches y (op.Sync stripe)) old new (λ t tw h. (((λ out. omega (arith, out, within)), (λ long. long)), h)) (λ t tw h. h.1) marks
