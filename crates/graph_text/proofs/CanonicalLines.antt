-- That the lines of buffers, nodes and returns that are read are those of the form.
use Rattle.std.proofs.Common.{◌≡◌, ℕ, Bool, true, false, cond, List, [], ◌∷◌, ◌++◌, Option, Result, Ok, Err, refl, subst}
use Rattle.std.specs.Prelude.{codes}
use Rattle.std.specs.Str.{bytes_eq}
use Rattle.raid_text.specs.Text.{Text}
use Rattle.graph_mean.specs.declared.graph.Buf.{Buf}
use Rattle.graph_mean.specs.declared.graph.Ret.{Ret}
use Rattle.graph_mean.specs.declared.graph.Node.{Node}
use Rattle.graph_mean.specs.declared.graph.Node.TheVariants.{Rd, Wr, Xor, Cmt, Trm}
use Rattle.graph_mean.specs.Graph.{Vertex, is_xor}
use Rattle.graph_text.specs.FormatSteps.{next_pair}
use Rattle.text_steps.specs.Steps.{at_end, next_number, next_word, after_number, after_word}
use Rattle.graph_text.specs.FormatLines.{after_of, antes_of, buffer_of, kind_of, new_of, node_of, plain_of, return_of, sources_of}
use Rattle.graph_text.specs.Steps.{read_of, write_of, xor_of}
use Rattle.graph_text.specs.FormatForm.{Place, Literal, Number, FillsAll, after_places, kind_places, new_places, number_places}
use Rattle.graph_text.proofs.CanonicalSteps.{bind_ok, ok_same, bytes_same, words_are, literal_fills, number_fills, index_fills, pair_fills, end_fills, new_fills, after_fills, sources_fill, word_read, literal_read, number_read, index_read, pair_read, end_read, new_read, after_read, sources_read}

-- ---- buffers

-- the places behind the word `buffer`
abbrev pub of_buffer : ℕ → Buf → List Place
of_buffer n buf = Number n ∷ Literal (codes "stripe") ∷ Number buf.stripe ∷ Literal (codes "from") ∷ Number buf.from ∷ Literal (codes "count") ∷ Number buf.count ∷ new_places buf.new_of

pub buffer_fills : (n : ℕ) (words : List Text) (buf : Buf) → buffer_of n words ≡ Ok buf → FillsAll (of_buffer n buf) words
unfolding buffer_of
buffer_fills n words buf h =
    let a = bind_ok (after_number n 3 words) _ buf h in
    let b = bind_ok (after_word (codes "stripe") 1 a.0) _ buf a.2 in
    let s = bind_ok (next_number b.0) _ buf b.2 in
    let c = bind_ok (after_word (codes "from") 1 s.0.1) _ buf s.2 in
    let f = bind_ok (next_number c.0) _ buf c.2 in
    let d = bind_ok (after_word (codes "count") 1 f.0.1) _ buf f.2 in
    let k = bind_ok (next_number d.0) _ buf d.2 in
    let u = bind_ok (new_of k.0.1) _ buf k.2 in
    parts a.0 b.0 s.0.0 s.0.1 c.0 f.0.0 f.0.1 d.0 k.0.0 k.0.1 u.0 a.1 b.1 s.1 c.1 f.1 d.1 k.1 u.1 u.2
  where
    parts : (a b : List Text) (stripe : ℕ) (behind_stripe c : List Text) (from : ℕ) (behind_from d : List Text) (count : ℕ) (behind_count : List Text) (unit : Option ℕ)
        → after_number n 3 words ≡ Ok a → after_word (codes "stripe") 1 a ≡ Ok b → next_number b ≡ Ok (stripe, behind_stripe)
        → after_word (codes "from") 1 behind_stripe ≡ Ok c → next_number c ≡ Ok (from, behind_from)
        → after_word (codes "count") 1 behind_from ≡ Ok d → next_number d ≡ Ok (count, behind_count) → new_of behind_count ≡ Ok unit
        → ◌≡◌ {A = Result Buf ℕ} (Ok (record { stripe = stripe; from = from; count = count; new_of = unit })) (Ok buf) → FillsAll (of_buffer n buf) words
    parts a b stripe behind_stripe c from behind_from d count behind_count unit ha hb hs hc hf hd hk hu is =
        let last = Literal (codes "count") ∷ Number count ∷ new_places unit in
        let middle = Literal (codes "from") ∷ Number from ∷ last in
        let read : Buf = record { stripe = stripe; from = from; count = count; new_of = unit } in
        subst (λ (x : Buf). FillsAll (of_buffer n x) words) (ok_same read buf is)
        (index_fills n words a ha (Literal (codes "stripe") ∷ Number stripe ∷ middle)
        (literal_fills (codes "stripe") a b hb (Number stripe ∷ middle) (number_fills b stripe behind_stripe hs middle
        (literal_fills (codes "from") behind_stripe c hc (Number from ∷ last) (number_fills c from behind_from hf last
        (literal_fills (codes "count") behind_from d hd (Number count ∷ new_places unit) (number_fills d count behind_count hk (new_places unit) (new_fills behind_count unit hu))))))))

pub buffer_read : (n : ℕ) (words : List Text) (buf : Buf) → FillsAll (of_buffer n buf) words → buffer_of n words ≡ Ok buf
unfolding buffer_of
buffer_read n words buf fills =
    let number = Number buf.count ∷ new_places buf.new_of in
    let count = Literal (codes "count") ∷ number in
    let from = Literal (codes "from") ∷ Number buf.from ∷ count in
    let stripe = Literal (codes "stripe") ∷ Number buf.stripe ∷ from in
    let a = index_read n stripe words fills in
    let b = literal_read (codes "stripe") (Number buf.stripe ∷ from) a.0 a.2 in
    let s = number_read buf.stripe from b.0 b.2 in
    let c = literal_read (codes "from") (Number buf.from ∷ count) s.0 s.2 in
    let f = number_read buf.from count c.0 c.2 in
    let d = literal_read (codes "count") number f.0 f.2 in
    let k = number_read buf.count (new_places buf.new_of) d.0 d.2 in
    let u = new_read buf.new_of k.0 k.2 in
    rw (a.1, b.1, s.1, c.1, f.1, d.1, k.1, u) refl

-- ---- nodes

-- the places from a node's kind on
abbrev pub of_node : Vertex → List Place
of_node v = kind_places v.kind ++ (number_places v.sources ++ after_places v.antes)

-- the words are such a node's, and sources stand at an exclusive-or alone
abbrev pub NodeFills : Vertex → List Text → Type 0
NodeFills v words = FillsAll (of_node v) words × (is_xor v.kind ≡ false → v.sources ≡ [])

plain_fills : (kind : Node) (words : List Text) (v : Vertex) → plain_of kind words ≡ Ok v → (antes : List ℕ) × (record { kind = kind; sources = []; antes = antes } ≡ v) × FillsAll (after_places antes) words
unfolding plain_of
plain_fills kind words v h =
    let b = bind_ok (after_of words) _ v h in
    let a = bind_ok (antes_of b.0) _ v b.2 in
    (a.0, ok_same _ v a.2, after_fills words b.0 a.0 b.1 a.1)

read_fills : (words : List Text) (v : Vertex) → read_of words ≡ Ok v → NodeFills v (codes "read" ∷ words)
unfolding read_of
read_fills words v h =
    let p = bind_ok (next_pair words) _ v h in
    let a = plain_fills (Rd p.0.0 p.0.1) p.0.2 v p.2 in
    subst (λ (n : Vertex). NodeFills n (codes "read" ∷ words)) a.1 ((refl, pair_fills words p.0.0 p.0.1 p.0.2 p.1 (after_places a.0) a.2), λ _. refl)

write_fills : (words : List Text) (v : Vertex) → write_of words ≡ Ok v → NodeFills v (codes "write" ∷ words)
unfolding write_of
write_fills words v h =
    let p = bind_ok (next_pair words) _ v h in
    let a = plain_fills (Wr p.0.0 p.0.1) p.0.2 v p.2 in
    subst (λ (n : Vertex). NodeFills n (codes "write" ∷ words)) a.1 ((refl, pair_fills words p.0.0 p.0.1 p.0.2 p.1 (after_places a.0) a.2), λ _. refl)

xor_fills : (words : List Text) (v : Vertex) → xor_of words ≡ Ok v → NodeFills v (codes "xor" ∷ words)
unfolding xor_of
xor_fills words v h =
    let t = bind_ok (next_number words) _ v h in
    let s = bind_ok (sources_of t.0.1) _ v t.2 in
    let a = bind_ok (antes_of s.0.1) _ v s.2 in
    subst (λ (n : Vertex). NodeFills n (codes "xor" ∷ words)) (ok_same _ v a.2)
    ((refl, number_fills words t.0.0 t.0.1 t.1 (number_places s.0.0 ++ after_places a.0) (sources_fill t.0.1 s.0.0 s.0.1 a.0 s.1 a.1)), λ e. absurd (cc))

commit_fills : (words : List Text) (v : Vertex) → plain_of Cmt words ≡ Ok v → NodeFills v (codes "commit" ∷ words)
commit_fills words v h =
    let a = plain_fills Cmt words v h in
    subst (λ (n : Vertex). NodeFills n (codes "commit" ∷ words)) a.1 ((refl, a.2), λ _. refl)

terminate_fills : (words : List Text) (v : Vertex) → plain_of Trm words ≡ Ok v → NodeFills v (codes "terminate" ∷ words)
terminate_fills words v h =
    let a = plain_fills Trm words v h in
    subst (λ (n : Vertex). NodeFills n (codes "terminate" ∷ words)) a.1 ((refl, a.2), λ _. refl)

kind_fills : (word : Text) (words : List Text) (v : Vertex) → kind_of word words ≡ Ok v → NodeFills v (word ∷ words)
unfolding kind_of read_of write_of xor_of
kind_fills word words v h = reads (bytes_eq word (codes "read")) refl h
  where
    terminates : (b : Bool) → bytes_eq word (codes "terminate") ≡ b → cond b (plain_of Trm words) (Err 1) ≡ Ok v → NodeFills v (word ∷ words)
    terminates true e r = rw (bytes_same word (codes "terminate") e) (terminate_fills words v r)
    terminates false e r = absurd (cc)

    commits : (b : Bool) → bytes_eq word (codes "commit") ≡ b → cond b (plain_of Cmt words) (cond (bytes_eq word (codes "terminate")) (plain_of Trm words) (Err 1)) ≡ Ok v → NodeFills v (word ∷ words)
    commits true e r = rw (bytes_same word (codes "commit") e) (commit_fills words v r)
    commits false e r = terminates (bytes_eq word (codes "terminate")) refl r

    sums : (b : Bool) → bytes_eq word (codes "xor") ≡ b
        → cond b (xor_of words) (cond (bytes_eq word (codes "commit")) (plain_of Cmt words) (cond (bytes_eq word (codes "terminate")) (plain_of Trm words) (Err 1))) ≡ Ok v → NodeFills v (word ∷ words)
    sums true e r = rw (bytes_same word (codes "xor") e) (xor_fills words v r)
    sums false e r = commits (bytes_eq word (codes "commit")) refl r

    writes : (b : Bool) → bytes_eq word (codes "write") ≡ b
        → cond b (write_of words) (cond (bytes_eq word (codes "xor")) (xor_of words) (cond (bytes_eq word (codes "commit")) (plain_of Cmt words) (cond (bytes_eq word (codes "terminate")) (plain_of Trm words) (Err 1)))) ≡ Ok v
        → NodeFills v (word ∷ words)
    writes true e r = rw (bytes_same word (codes "write") e) (write_fills words v r)
    writes false e r = sums (bytes_eq word (codes "xor")) refl r

    reads : (b : Bool) → bytes_eq word (codes "read") ≡ b
        → cond b (read_of words)
        (cond (bytes_eq word (codes "write")) (write_of words) (cond (bytes_eq word (codes "xor")) (xor_of words) (cond (bytes_eq word (codes "commit")) (plain_of Cmt words) (cond (bytes_eq word (codes "terminate")) (plain_of Trm words) (Err 1)))))
        ≡ Ok v
        → NodeFills v (word ∷ words)
    reads true e r = rw (bytes_same word (codes "read") e) (read_fills words v r)
    reads false e r = writes (bytes_eq word (codes "write")) refl r

pub node_fills : (n : ℕ) (words : List Text) (v : Vertex) → node_of n words ≡ Ok v → FillsAll (Number n ∷ of_node v) words × (is_xor v.kind ≡ false → v.sources ≡ [])
unfolding node_of
node_fills n words v h =
    let a = bind_ok (after_number n 3 words) _ v h in
    let w = bind_ok (next_word a.0) _ v a.2 in
    let k = kind_fills w.0.0 w.0.1 v w.2 in
    (index_fills n words a.0 a.1 (of_node v) (rw (words_are a.0 w.0.0 w.0.1 w.1) k.0), k.1)

-- the word of a kind and the words behind it
pub record KindRead (v : Vertex) (words : List Text) : Type 0 where
  pub kind : Text
  pub behind : List Text
  pub next : next_word words ≡ Ok (kind, behind)
  pub node : kind_of kind behind ≡ Ok v

plain_read : (kind : Node) (antes : List ℕ) (words : List Text) → FillsAll (after_places antes) words → plain_of kind words ≡ Ok (record { kind = kind; sources = []; antes = antes })
unfolding plain_of
plain_read kind antes words fills =
    let a = after_read antes words fills in
    rw (a.1, a.2) refl

plain_kind : (kind : Node) (sources antes : List ℕ) (words : List Text) → sources ≡ [] → FillsAll (kind_places kind ++ (number_places sources ++ after_places antes)) words → FillsAll (kind_places kind ++ after_places antes) words
plain_kind kind sources antes words none fills = rw none at fills

kind_read : (kind : Node) (sources antes : List ℕ) (words : List Text) → (is_xor kind ≡ false → sources ≡ []) → FillsAll (kind_places kind ++ (number_places sources ++ after_places antes)) words
    → KindRead (record { kind = kind; sources = sources; antes = antes }) words
unfolding kind_of read_of write_of xor_of
kind_read (Rd unit buf) sources antes words sums fills =
    let none = sums refl in
    let w = word_read (Literal (codes "read")) (Number unit ∷ Number buf ∷ after_places antes) words (plain_kind (Rd unit buf) sources antes words none fills) in
    let is : w.0 ≡ codes "read" = w.3 in
    let p = pair_read unit buf (after_places antes) w.1 w.4 in
    record { kind = w.0; behind = w.1; next = w.2; node = rw (is, p.1, plain_read (Rd unit buf) antes p.0 p.2, none) refl }
kind_read (Wr unit buf) sources antes words sums fills =
    let none = sums refl in
    let w = word_read (Literal (codes "write")) (Number unit ∷ Number buf ∷ after_places antes) words (plain_kind (Wr unit buf) sources antes words none fills) in
    let is : w.0 ≡ codes "write" = w.3 in
    let p = pair_read unit buf (after_places antes) w.1 w.4 in
    record { kind = w.0; behind = w.1; next = w.2; node = rw (is, p.1, plain_read (Wr unit buf) antes p.0 p.2, none) refl }
kind_read (Xor to) sources antes words sums fills =
    let w = word_read (Literal (codes "xor")) (Number to ∷ (number_places sources ++ after_places antes)) words fills in
    let is : w.0 ≡ codes "xor" = w.3 in
    let t = number_read to (number_places sources ++ after_places antes) w.1 w.4 in
    let s = sources_read sources antes t.0 t.2 in
    record { kind = w.0; behind = w.1; next = w.2; node = rw (is, t.1, s.1, s.2) refl }
kind_read Cmt sources antes words sums fills =
    let none = sums refl in
    let w = word_read (Literal (codes "commit")) (after_places antes) words (plain_kind Cmt sources antes words none fills) in
    let is : w.0 ≡ codes "commit" = w.3 in
    record { kind = w.0; behind = w.1; next = w.2; node = rw (is, plain_read Cmt antes w.1 w.4, none) refl }
kind_read Trm sources antes words sums fills =
    let none = sums refl in
    let w = word_read (Literal (codes "terminate")) (after_places antes) words (plain_kind Trm sources antes words none fills) in
    let is : w.0 ≡ codes "terminate" = w.3 in
    record { kind = w.0; behind = w.1; next = w.2; node = rw (is, plain_read Trm antes w.1 w.4, none) refl }

pub node_read : (n : ℕ) (words : List Text) (v : Vertex) → (is_xor v.kind ≡ false → v.sources ≡ []) → FillsAll (Number n ∷ of_node v) words → node_of n words ≡ Ok v
unfolding node_of
node_read n words v sums fills =
    let a = index_read n (of_node v) words fills in
    let k = kind_read v.kind v.sources v.antes a.0 sums a.2 in
    rw (a.1, k.next, k.node) refl

-- ---- returns

-- the places behind the word `return`
abbrev pub of_return : Ret → List Place
of_return ret = Number ret.unit ∷ Number ret.buf ∷ []

pub return_fills : (words : List Text) (ret : Ret) → return_of words ≡ Ok ret → FillsAll (of_return ret) words
unfolding return_of
return_fills words ret h =
    let p = bind_ok (next_pair words) _ ret h in
    let e = bind_ok (at_end p.0.2) _ ret p.2 in
    subst (λ (x : Ret). FillsAll (of_return x) words) (ok_same _ ret e.2) (pair_fills words p.0.0 p.0.1 p.0.2 p.1 [] (end_fills p.0.2 e.0 e.1))

pub return_read : (words : List Text) (ret : Ret) → FillsAll (of_return ret) words → return_of words ≡ Ok ret
unfolding return_of
return_read words ret fills =
    let p = pair_read ret.unit ret.buf [] words fills in
    rw (p.1, end_read p.0 p.2) refl
