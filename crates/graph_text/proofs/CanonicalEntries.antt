-- One line of a file: what it adds, and its form.
use Rattle.std.proofs.Common.{◌≡◌, ◌∙◌, ℕ, ◌+◌, ◌<◌, ◌≤◌, Bool, true, false, cond, List, [], ◌∷◌, ◌++◌, Option, Some, None, Result, Ok, Err, refl, sym, ap, subst, length, arith}
use Rattle.std.specs.Prelude.{◌&&◌, not, codes, nat_le, nat_lt, IsTrue}
use Rattle.std.specs.Str.{bytes_eq}
use Rattle.std.proofs.lemmas.Bool.{and_parts, eqb-true, ltb-true, leb-true}
use Rattle.std.proofs.lemmas.Bool.Decides.{nat_tests}
use Rattle.raid_text.specs.Text.{Text, Numbered, is_sound, sound_words, words_of}
use Rattle.graph_mean.specs.declared.graph.Buf.{Buf}
use Rattle.graph_mean.specs.declared.graph.Ret.{Ret}
use Rattle.graph_mean.specs.Graph.{View, Vertex, blank, edge_count, edges_at, is_xor}
use Rattle.text_steps.specs.Steps.{◌>>=◌, at_end, next_word, only_if}
use Rattle.graph_text.specs.FormatLines.{buffer_of, node_of, return_of}
use Rattle.graph_text.specs.Format.{Named, Read, after_line, inside_line, is_name, outside_line, placed_line, start_of, with_buffer_line, with_node_line, with_return_line}
use Rattle.graph_text.specs.Steps.{has_name, is_empty}
use Rattle.graph_text.specs.FormatForm.{Place, Literal, FillsAll, IsLineOf, buffer_places, end_places, node_places, return_places, start_places}
use Rattle.graph_text.proofs.CanonicalSteps.{bind_ok, ok_same, only_ok, bytes_same, words_are, word_fills, end_fills, word_read, end_read}
use Rattle.graph_text.proofs.CanonicalLines.{buffer_fills, buffer_read, node_fills, node_read, return_fills, return_read}

-- ---- entries

-- what a line says
pub data Entry : Type 0 where
  Start : Text → Entry
  Buffer : Buf → Entry
  Node : Vertex → Entry
  Return : Ret → Entry
  End : Entry

-- its places, behind so much of a graph
abbrev pub entry_places : View → Entry → List Place
entry_places g (Start name) = start_places name
entry_places g (Buffer buf) = buffer_places (length g.bufs) buf
entry_places g (Node v) = node_places (length g.nodes) v
entry_places g (Return ret) = return_places ret
entry_places g End = end_places

-- the graph that goes on
abbrev pub view_of : Option Named → View
view_of None = blank
view_of (Some g) = g.graph

-- such a line may come
abbrev pub IsNext : List Named → Option Named → Entry → Type 0
IsNext ended None (Start name) = IsTrue (is_name name) × (has_name ended name ≡ false) × (length ended < 64)
IsNext ended None (Buffer buf) = ⊥
IsNext ended None (Node v) = ⊥
IsNext ended None (Return ret) = ⊥
IsNext ended None End = ⊥
IsNext ended (Some g) (Start name) = ⊥
IsNext ended (Some g) (Buffer buf) = (g.graph.nodes ≡ []) × (g.graph.rets ≡ []) × (length g.graph.bufs < 2048)
IsNext ended (Some g) (Node v) = (g.graph.rets ≡ []) × (length g.graph.nodes < 2048) × (edge_count g.graph + edges_at v ≤ 16384) × (is_xor v.kind ≡ false → v.sources ≡ [])
IsNext ended (Some g) (Return ret) = length g.graph.rets < 2048
IsNext ended (Some g) End = Unit {0}

-- what is read once it came
abbrev pub after : List Named → Option Named → Entry → Read
after ended None (Start name) = record { ended = ended; current = Some (record { name = name; graph = blank }) }
after ended None (Buffer buf) = record { ended = ended; current = None }
after ended None (Node v) = record { ended = ended; current = None }
after ended None (Return ret) = record { ended = ended; current = None }
after ended None End = record { ended = ended; current = None }
after ended (Some g) (Start name) = record { ended = ended; current = Some g }
after ended (Some g) (Buffer buf) = record { ended = ended; current = Some (record g { graph = record g.graph { bufs = g.graph.bufs ++ buf ∷ [] } }) }
after ended (Some g) (Node v) = record { ended = ended; current = Some (record g { graph = record g.graph { nodes = g.graph.nodes ++ v ∷ [] } }) }
after ended (Some g) (Return ret) = record { ended = ended; current = Some (record g { graph = record g.graph { rets = g.graph.rets ++ ret ∷ [] } }) }
after ended (Some g) End = record { ended = ended ++ g ∷ []; current = None }

-- ---- tests

nothing : {A : Type 0} (xs : List A) → is_empty xs ≡ true → xs ≡ []
nothing [] h = refl
nothing (x ∷ xs) h = let bad = eqb-true (length (x ∷ xs)) 0 h in absurd (omega arith)

both_empty : {A B : Type 0} (xs : List A) (ys : List B) → xs ≡ [] → ys ≡ [] → (is_empty xs && is_empty ys) ≡ true
both_empty xs ys a b = rw (a, b) refl

one_empty : {A : Type 0} (xs : List A) → xs ≡ [] → is_empty xs ≡ true
one_empty xs a = rw a refl

below : (n m : ℕ) → n < m → nat_lt n m ≡ true
below n m h = grind (arith, nat_tests)

within : (n m e : ℕ) → n < m → e ≤ 16384 → (nat_lt n m && nat_le e 16384) ≡ true
within n m e h k = grind (arith, nat_tests)

is_false : (b : Bool) → not b ≡ true → b ≡ false
is_false true h = absurd (cc)
is_false false h = refl

-- ---- a line that is read has the form

-- the entry that these words are
pub record IsEntry (ended : List Named) (current : Option Named) (words : List Text) (next : Read) : Type 0 where
  pub entry : Entry
  pub may : IsNext ended current entry
  pub is : after ended current entry ≡ next
  pub fills : FillsAll (entry_places (view_of current) entry) words

start_fills : (ended : List Named) (words : List Text) (name : Text) → start_of ended words ≡ Ok name → IsNext ended None (Start name) × FillsAll (Literal name ∷ []) words
unfolding start_of has_name
start_fills ended words name h =
    let w = bind_ok (next_word words) _ name h in
    let n = bind_ok (only_if (is_name w.0.0) 1) _ name w.2 in
    let d = bind_ok (only_if (not (has_name ended w.0.0)) 4) _ name n.2 in
    let e = bind_ok (at_end w.0.1) _ name d.2 in
    let r = bind_ok (only_if (nat_lt (length ended) 64) 5) _ name e.2 in
    let is : w.0.0 ≡ name = ok_same w.0.0 name r.2 in
    subst (λ (x : Text). IsNext ended None (Start x) × FillsAll (Literal x ∷ []) words) is (
      (only_ok (is_name w.0.0) 1 n.0 n.1, is_false (has_name ended w.0.0) (only_ok (not (has_name ended w.0.0)) 4 d.0 d.1), ltb-true (length ended) 64 (only_ok (nat_lt (length ended) 64) 5 r.0 r.1)),
      word_fills words w.0.0 w.0.1 w.1 (Literal w.0.0) refl [] (end_fills w.0.1 e.0 e.1),
    )

outside_is : (ended : List Named) (word : Text) (words : List Text) (next : Read) → outside_line ended word words ≡ Ok next → IsEntry ended None (word ∷ words) next
unfolding outside_line
outside_is ended word words next h = go (bytes_eq word (codes "graph")) refl h
  where
    go : (b : Bool) → bytes_eq word (codes "graph") ≡ b → cond b (start_of ended words >>= λ name. Ok (record { ended = ended; current = Some (record { name = name; graph = blank }) })) (Err 1) ≡ Ok next
        → IsEntry ended None (word ∷ words) next
    go true e r =
        let n = bind_ok (start_of ended words) _ next r in
        let s = start_fills ended words n.0 n.1 in
        record { entry = Start n.0; may = s.0; is = ok_same _ next n.2; fills = (bytes_same word (codes "graph") e, s.1) }
    go false e r = absurd (cc)

buffer_is : (ended : List Named) (g : Named) (words : List Text) (more : View) → with_buffer_line g.graph words ≡ Ok more
    → (buf : Buf) × IsNext ended (Some g) (Buffer buf) × (record g.graph { bufs = g.graph.bufs ++ buf ∷ [] } ≡ more) × FillsAll (buffer_places (length g.graph.bufs) buf) (codes "buffer" ∷ words)
unfolding with_buffer_line
buffer_is ended g words more h =
    let o = bind_ok (only_if (is_empty g.graph.nodes && is_empty g.graph.rets) 1) _ more h in
    let b = bind_ok (buffer_of (length g.graph.bufs) words) _ more o.2 in
    let r = bind_ok (only_if (nat_lt (length g.graph.bufs) 2048) 5) _ more b.2 in
    let none = and_parts (is_empty g.graph.nodes) (is_empty g.graph.rets) (only_ok (is_empty g.graph.nodes && is_empty g.graph.rets) 1 o.0 o.1) in (
      b.0,
      (nothing g.graph.nodes none.0, nothing g.graph.rets none.1, ltb-true (length g.graph.bufs) 2048 (only_ok (nat_lt (length g.graph.bufs) 2048) 5 r.0 r.1)),
      ok_same _ more r.2,
      (refl, buffer_fills (length g.graph.bufs) words b.0 b.1),
    )

node_is : (ended : List Named) (g : Named) (words : List Text) (more : View) → with_node_line g.graph words ≡ Ok more
    → (v : Vertex) × IsNext ended (Some g) (Node v) × (record g.graph { nodes = g.graph.nodes ++ v ∷ [] } ≡ more) × FillsAll (node_places (length g.graph.nodes) v) (codes "node" ∷ words)
unfolding with_node_line
node_is ended g words more h =
    let o = bind_ok (only_if (is_empty g.graph.rets) 1) _ more h in
    let v = bind_ok (node_of (length g.graph.nodes) words) _ more o.2 in
    let r = bind_ok (only_if (nat_lt (length g.graph.nodes) 2048 && nat_le (edge_count g.graph + edges_at v.0) 16384) 5) _ more v.2 in
    let room = and_parts (nat_lt (length g.graph.nodes) 2048) (nat_le (edge_count g.graph + edges_at v.0) 16384) (only_ok _ 5 r.0 r.1) in
    let f = node_fills (length g.graph.nodes) words v.0 v.1 in (
      v.0,
      (nothing g.graph.rets (only_ok (is_empty g.graph.rets) 1 o.0 o.1), ltb-true (length g.graph.nodes) 2048 room.0, leb-true (edge_count g.graph + edges_at v.0) 16384 room.1, f.1),
      ok_same _ more r.2,
      (refl, f.0),
    )

return_is : (ended : List Named) (g : Named) (words : List Text) (more : View) → with_return_line g.graph words ≡ Ok more
    → (ret : Ret) × IsNext ended (Some g) (Return ret) × (record g.graph { rets = g.graph.rets ++ ret ∷ [] } ≡ more) × FillsAll (return_places ret) (codes "return" ∷ words)
unfolding with_return_line
return_is ended g words more h =
    let t = bind_ok (return_of words) _ more h in
    let r = bind_ok (only_if (nat_lt (length g.graph.rets) 2048) 5) _ more t.2 in
    (t.0, ltb-true (length g.graph.rets) 2048 (only_ok (nat_lt (length g.graph.rets) 2048) 5 r.0 r.1), ok_same _ more r.2, (refl, return_fills words t.0 t.1))

-- a graph that goes on with this
abbrev goes_on : List Named → Named → View → Result Read ℕ
goes_on ended g more = Ok (record { ended = ended; current = Some (record g { graph = more }) })

inside_is : (ended : List Named) (g : Named) (word : Text) (words : List Text) (next : Read) → inside_line ended g word words ≡ Ok next → IsEntry ended (Some g) (word ∷ words) next
unfolding inside_line
inside_is ended g word words next h = buffers (bytes_eq word (codes "buffer")) refl h
  where
    ends : (b : Bool) → bytes_eq word (codes "end") ≡ b → cond b (at_end words >>= λ end. Ok (record { ended = ended ++ g ∷ []; current = None })) (Err 1) ≡ Ok next → IsEntry ended (Some g) (word ∷ words) next
    ends true e r =
        let n = bind_ok (at_end words) _ next r in
        record { entry = End; may = tt; is = ok_same _ next n.2; fills = (bytes_same word (codes "end") e, end_fills words n.0 n.1) }
    ends false e r = absurd (cc)

    returns : (b : Bool) → bytes_eq word (codes "return") ≡ b
        → cond b (with_return_line g.graph words >>= goes_on ended g) (cond (bytes_eq word (codes "end")) (at_end words >>= λ end. Ok (record { ended = ended ++ g ∷ []; current = None })) (Err 1)) ≡ Ok next → IsEntry ended (Some g) (word ∷ words) next
    returns true e r =
        let m = bind_ok (with_return_line g.graph words) _ next r in
        let t = return_is ended g words m.0 m.1 in
        let is : record { ended = ended; current = Some (record g { graph = record g.graph { rets = g.graph.rets ++ t.0 ∷ [] } }) } ≡ next = ap (λ (v : View). record { ended = ended; current = Some (record g { graph = v }) }) t.2 ∙ ok_same _ next m.2 in
        record { entry = Return t.0; may = t.1; is = is; fills = rw (bytes_same word (codes "return") e) t.3 }
    returns false e r = ends (bytes_eq word (codes "end")) refl r

    nodes : (b : Bool) → bytes_eq word (codes "node") ≡ b
        → cond b (with_node_line g.graph words >>= goes_on ended g)
        (cond (bytes_eq word (codes "return")) (with_return_line g.graph words >>= goes_on ended g) (cond (bytes_eq word (codes "end")) (at_end words >>= λ end. Ok (record { ended = ended ++ g ∷ []; current = None })) (Err 1)))
        ≡ Ok next
        → IsEntry ended (Some g) (word ∷ words) next
    nodes true e r =
        let m = bind_ok (with_node_line g.graph words) _ next r in
        let t = node_is ended g words m.0 m.1 in
        let is : record { ended = ended; current = Some (record g { graph = record g.graph { nodes = g.graph.nodes ++ t.0 ∷ [] } }) } ≡ next = ap (λ (v : View). record { ended = ended; current = Some (record g { graph = v }) }) t.2 ∙ ok_same _ next m.2 in
        record { entry = Node t.0; may = t.1; is = is; fills = rw (bytes_same word (codes "node") e) t.3 }
    nodes false e r = returns (bytes_eq word (codes "return")) refl r

    buffers : (b : Bool) → bytes_eq word (codes "buffer") ≡ b
        → cond b (with_buffer_line g.graph words >>= goes_on ended g)
        (cond (bytes_eq word (codes "node")) (with_node_line g.graph words >>= goes_on ended g)
        (cond (bytes_eq word (codes "return")) (with_return_line g.graph words >>= goes_on ended g) (cond (bytes_eq word (codes "end")) (at_end words >>= λ end. Ok (record { ended = ended ++ g ∷ []; current = None })) (Err 1))))
        ≡ Ok next
        → IsEntry ended (Some g) (word ∷ words) next
    buffers true e r =
        let m = bind_ok (with_buffer_line g.graph words) _ next r in
        let t = buffer_is ended g words m.0 m.1 in
        let is : record { ended = ended; current = Some (record g { graph = record g.graph { bufs = g.graph.bufs ++ t.0 ∷ [] } }) } ≡ next = ap (λ (v : View). record { ended = ended; current = Some (record g { graph = v }) }) t.2 ∙ ok_same _ next m.2 in
        record { entry = Buffer t.0; may = t.1; is = is; fills = rw (bytes_same word (codes "buffer") e) t.3 }
    buffers false e r = nodes (bytes_eq word (codes "node")) refl r

-- the entry of a line
pub record LineRead (read : Read) (line : Numbered) (next : Read) : Type 0 where
  pub entry : Entry
  pub may : IsNext read.ended read.current entry
  pub is : after read.ended read.current entry ≡ next
  pub form : IsLineOf (entry_places (view_of read.current) entry) line

pub line_is : (read : Read) (line : Numbered) (next : Read) → after_line read line ≡ Ok next → LineRead read line next
unfolding after_line sound_words
line_is read line next h =
    let s = bind_ok (only_if (is_sound line.body) 1) _ next h in
    let w = bind_ok (next_word (words_of line.body)) _ next s.2 in
    let e = placed read.ended read.current w.0.0 w.0.1 w.2 in
    record {
      entry = e.entry;
      may = e.may;
      is = e.is;
      form = (words_of line.body, rw (only_ok (is_sound line.body) 1 s.0 s.1) refl, subst (λ (ws : List Text). FillsAll (entry_places (view_of read.current) e.entry) ws) (sym (words_are (words_of line.body) w.0.0 w.0.1 w.1)) e.fills);
    }
  where
    placed : (ended : List Named) (current : Option Named) (word : Text) (words : List Text) → placed_line ended current word words ≡ Ok next → IsEntry ended current (word ∷ words) next
    placed ended None word words r = outside_is ended word words next r
    placed ended (Some g) word words r = inside_is ended g word words next r

-- ---- a line of the form is read

start_read : (ended : List Named) (name : Text) (words : List Text) → IsNext ended None (Start name) → FillsAll (Literal name ∷ []) words → start_of ended words ≡ Ok name
unfolding start_of has_name
start_read ended name words (named, other, few) fills =
    let w = word_read (Literal name) [] words fills in
    let is : w.0 ≡ name = w.3 in
    rw (w.2, is, named, other, end_read w.1 w.4, below (length ended) 64 few) refl

placed_read : (ended : List Named) (current : Option Named) (entry : Entry) (word : Text) (words : List Text) → IsNext ended current entry → FillsAll (entry_places (view_of current) entry) (word ∷ words)
    → placed_line ended current word words ≡ Ok (after ended current entry)
unfolding outside_line inside_line with_buffer_line with_node_line with_return_line
placed_read ended None (Start name) word words may (is, fills) = rw (is, start_read ended name words may fills) refl
placed_read ended None (Buffer buf) word words may fills = absurd may
placed_read ended None (Node v) word words may fills = absurd may
placed_read ended None (Return ret) word words may fills = absurd may
placed_read ended None End word words may fills = absurd may
placed_read ended (Some g) (Start name) word words may fills = absurd may
placed_read ended (Some g) (Buffer buf) word words (nodes, rets, few) (is, fills) =
    rw (is, both_empty g.graph.nodes g.graph.rets nodes rets, buffer_read (length g.graph.bufs) words buf fills, below (length g.graph.bufs) 2048 few) refl
placed_read ended (Some g) (Node v) word words (rets, few, edges, sums) (is, fills) =
    rw (is, one_empty g.graph.rets rets, node_read (length g.graph.nodes) words v sums fills, within (length g.graph.nodes) 2048 (edge_count g.graph + edges_at v) few edges) refl
placed_read ended (Some g) (Return ret) word words few (is, fills) = rw (is, return_read words ret fills, below (length g.graph.rets) 2048 few) refl
placed_read ended (Some g) End word words may (is, fills) = rw (is, end_read words fills) refl

pub line_read : (read : Read) (entry : Entry) (line : Numbered) → IsNext read.ended read.current entry → IsLineOf (entry_places (view_of read.current) entry) line → after_line read line ≡ Ok (after read.ended read.current entry)
unfolding after_line sound_words next_word
line_read read entry line may (words, sound, fills) = go (is_sound line.body) words refl sound fills
  where
    go : (b : Bool) (ws : List Text) → is_sound line.body ≡ b → cond b (Some (words_of line.body)) None ≡ Some ws → FillsAll (entry_places (view_of read.current) entry) ws → after_line read line ≡ Ok (after read.ended read.current entry)
    go true ws e s f = let is : words_of line.body ≡ ws = cc in rw (e, is) (placed ws f)
      where
        placed : (ws : List Text) → FillsAll (entry_places (view_of read.current) entry) ws
            → (next_word ws >>= λ first. placed_line read.ended read.current first.0 first.1) ≡ Ok (after read.ended read.current entry)
        placed [] f = absurd (some_places entry f)
          where
            some_places : (x : Entry) → FillsAll (entry_places (view_of read.current) x) [] → ⊥
            some_places (Start name) f = f
            some_places (Buffer buf) f = f
            some_places (Node v) f = f
            some_places (Return ret) f = f
            some_places End f = f
        placed (w ∷ ws) f = placed_read read.ended read.current entry w ws may f
    go false ws e s f = absurd (cc)
