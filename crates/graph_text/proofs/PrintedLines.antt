-- How printed lines follow one another.
use Rattle.std.proofs.Common.{◌≡◌, ◌∙◌, ℕ, ◌+◌, ◌<◌, ◌≤◌, List, [], ◌∷◌, ◌++◌, length, drop, get_or, map, refl, sym, ap, append_assoc, append-nil}
use Rattle.std.specs.List.{join_with_byte}
use Rattle.std.proofs.lemmas.List.{drop_all, drop_more}
use Rattle.std.proofs.lemmas.Grind.{flat_map-append}
use Rattle.raid_text.specs.Text.{Text}
use Rattle.raid_text.specs.Printed.{text_of}
use Rattle.graph_mean.specs.declared.graph.Buf.{Buf}
use Rattle.graph_mean.specs.declared.graph.Ret.{Ret}
use Rattle.graph_mean.specs.Graph.{View, Vertex}
use Rattle.graph_text.specs.FormatForm.{Place, Literal, body_lines, buffer_lines, buffer_places, canonical, end_places, graph_lines, graph_text, node_lines, node_places, printed, return_lines, return_places, start_places}
use Rattle.graph_text.specs.Printing.{line_text, lines_text, spaced}

-- ---- a line

-- a word, and those behind it
joined : (word : Text) (places : List Place) → join_with_byte 32 (word ∷ map printed places) ≡ word ++ spaced places
joined word [] = sym (append-nil word)
joined word (place ∷ places) = ap (λ (t : Text). word ++ 32 ∷ t) (joined (printed place) places)

-- the line that begins with this word
pub line_of : (word : Text) (places : List Place) → line_text (Literal word ∷ places) ≡ (word ++ spaced places) ++ 10 ∷ []
unfolding line_text
line_of word places = ap (λ (t : Text). t ++ 10 ∷ []) (joined word places)

-- words, and those behind them
pub words_then : (old mid new : Text) (front back : List Place) → mid ≡ old ++ spaced front → new ≡ mid ++ spaced back → new ≡ old ++ spaced (front ++ back)
words_then old mid new front back one two =
    two ∙ ap (λ (t : Text). t ++ spaced back) one ∙ append_assoc old (spaced front) (spaced back) ∙ ap (λ (t : Text). old ++ t) (sym (flat_map-append (λ place. 32 ∷ printed place) front back))

-- a first word, the words behind it, and the line's end
pub line_then : (old first words new word : Text) (places : List Place) → first ≡ old ++ word → words ≡ first ++ spaced places → new ≡ words ++ 10 ∷ [] → new ≡ old ++ line_text (Literal word ∷ places)
line_then old first words new word places one two three =
    three
    ∙ ap (λ (t : Text). t ++ 10 ∷ []) (two ∙ ap (λ (t : Text). t ++ spaced places) one ∙ append_assoc old word (spaced places))
    ∙ append_assoc old (word ++ spaced places) (10 ∷ [])
    ∙ ap (λ (t : Text). old ++ t) (sym (line_of word places))

-- ---- lines

-- a text is its lines
pub canonical_is : (lines : List (List Place)) → canonical lines ≡ lines_text lines
unfolding text_of line_text
canonical_is [] = refl
canonical_is (places ∷ lines) =
    ap (λ (t : Text). join_with_byte 32 (map printed places) ++ 10 ∷ t) (canonical_is lines)
    ∙ sym (append_assoc (join_with_byte 32 (map printed places)) (10 ∷ []) (lines_text lines))

-- the buffer at place i, and those behind it
pub buffers_more : (bufs : List Buf) (i : ℕ) (buf d : Buf) → i < length bufs → buf ≡ get_or bufs i d
    → lines_text (buffer_lines i (drop i bufs)) ≡ line_text (buffer_places i buf) ++ lines_text (buffer_lines (i + 1) (drop (i + 1) bufs))
unfolding buffer_lines
buffers_more bufs i buf d lt is = rw (drop_more bufs i d lt, is) refl

pub no_buffers : (bufs : List Buf) (i : ℕ) → length bufs ≤ i → lines_text (buffer_lines i (drop i bufs)) ≡ []
unfolding buffer_lines
no_buffers bufs i h = rw (drop_all i bufs h) refl

-- the node at place i, and those behind it
pub nodes_more : (nodes : List Vertex) (i : ℕ) (node d : Vertex) → i < length nodes → node ≡ get_or nodes i d
    → lines_text (node_lines i (drop i nodes)) ≡ line_text (node_places i node) ++ lines_text (node_lines (i + 1) (drop (i + 1) nodes))
unfolding node_lines
nodes_more nodes i node d lt is = rw (drop_more nodes i d lt, is) refl

pub no_nodes : (nodes : List Vertex) (i : ℕ) → length nodes ≤ i → lines_text (node_lines i (drop i nodes)) ≡ []
unfolding node_lines
no_nodes nodes i h = rw (drop_all i nodes h) refl

-- the return at place i, and those behind it
pub returns_more : (rets : List Ret) (i : ℕ) (ret d : Ret) → i < length rets → ret ≡ get_or rets i d
    → lines_text (return_lines (drop i rets)) ≡ line_text (return_places ret) ++ lines_text (return_lines (drop (i + 1) rets))
returns_more rets i ret d lt is = rw (drop_more rets i d lt, is) refl

pub no_returns : (rets : List Ret) (i : ℕ) → length rets ≤ i → lines_text (return_lines (drop i rets)) ≡ []
no_returns rets i h = rw (drop_all i rets h) refl

-- a part was appended of what was left
pub one_more : (old new part left rest all : Text) → new ≡ old ++ part → left ≡ part ++ rest → old ++ left ≡ all → new ++ rest ≡ all
one_more old new part left rest all is more so_far = ap (λ (t : Text). t ++ rest) is ∙ append_assoc old part rest ∙ ap (λ (t : Text). old ++ t) (sym more) ∙ so_far

-- nothing is left
pub all_done : (new left all : Text) → left ≡ [] → new ++ left ≡ all → new ≡ all
all_done new left all none so_far = sym (append-nil new) ∙ ap (λ (t : Text). new ++ t) (sym none) ∙ so_far

-- ---- a graph

-- its first line, its buffers, its nodes, its returns and its last line
pub graph_is : (name : Text) (g : View)
    → graph_text (record { name = name; graph = g })
    ≡ line_text (start_places name) ++ (lines_text (buffer_lines 0 g.bufs) ++ (lines_text (node_lines 0 g.nodes) ++ (lines_text (return_lines g.rets) ++ line_text end_places)))
unfolding graph_lines body_lines
graph_is name g =
    let lines = buffer_lines 0 g.bufs ++ (node_lines 0 g.nodes ++ (return_lines g.rets ++ end_places ∷ [])) in
    canonical_is (start_places name ∷ lines)
    ∙ ap (λ (t : Text). line_text (start_places name) ++ t) (
    flat_map-append line_text (buffer_lines 0 g.bufs) (node_lines 0 g.nodes ++ (return_lines g.rets ++ end_places ∷ []))
    ∙ ap (λ (t : Text). lines_text (buffer_lines 0 g.bufs) ++ t) (
    flat_map-append line_text (node_lines 0 g.nodes) (return_lines g.rets ++ end_places ∷ [])
    ∙ ap (λ (t : Text). lines_text (node_lines 0 g.nodes) ++ t) (
    flat_map-append line_text (return_lines g.rets) (end_places ∷ []) ∙ ap (λ (t : Text). lines_text (return_lines g.rets) ++ t) (append-nil (line_text end_places))
    )
    )
    )

-- the parts that were appended one after another
pub graph_then : (name : Text) (g : View) (none head bufs nodes rets new : Text) → none ≡ [] → head ≡ none ++ line_text (start_places name) → bufs ≡ head ++ lines_text (buffer_lines 0 g.bufs)
    → nodes ≡ bufs ++ lines_text (node_lines 0 g.nodes) → rets ≡ nodes ++ lines_text (return_lines g.rets) → new ≡ rets ++ line_text end_places → new ≡ graph_text (record { name = name; graph = g })
graph_then name g none head bufs nodes rets new z a b c d e =
    let first = line_text (start_places name) in
    let second = lines_text (buffer_lines 0 g.bufs) in
    let third = lines_text (node_lines 0 g.nodes) in
    let fourth = lines_text (return_lines g.rets) in
    let fifth = line_text end_places in
    let h : head ≡ first = a ∙ ap (λ (t : Text). t ++ first) z in
    e
    ∙ ap (λ (t : Text). t ++ fifth) (d ∙ ap (λ (t : Text). t ++ fourth) (c ∙ ap (λ (t : Text). t ++ third) (b ∙ ap (λ (t : Text). t ++ second) h)))
    ∙ append_assoc ((first ++ second) ++ third) fourth fifth
    ∙ append_assoc (first ++ second) third (fourth ++ fifth)
    ∙ append_assoc first second (third ++ (fourth ++ fifth))
    ∙ sym (graph_is name g)
