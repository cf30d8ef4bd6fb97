-- That the files that are read are of the form.
use Rattle.std.proofs.Common.{◌≡◌, ◌≢◌, ◌∙◌, ℕ, ◌+◌, ◌<◌, ◌≤◌, ◌^◌, zero, suc, Bool, true, false, List, [], ◌∷◌, ◌++◌, Option, Some, None, Result, Ok, Err, refl, sym, ap, subst, length, get_or, arith, ⊎_elim, append_assoc, append-nil, All}
use Rattle.std.specs.Prelude.{◌||◌, IsTrue, flat_map}
use Rattle.std.specs.Option.{ForSome}
use Rattle.std.specs.Str.{bytes_eq}
use Rattle.std.proofs.lemmas.Bool.{cases_lt}
use Rattle.std.proofs.lemmas.Grind.{flat_map-append}
use Rattle.std.proofs.lemmas.List.{get_or_append_left, length_push, map-append}
use Rattle.std.proofs.lemmas.List.Elements.{All-cons, All-nil, All-push}
use Rattle.std.proofs.lemmas.List.Sums.{sum_by_push}
use Rattle.std.proofs.lemmas.Slice.Eq.{bytes_eq-Decides}
use Rattle.raid_text.specs.Text.{Text, Numbered, lines_in, raw_lines}
use Rattle.graph_mean.specs.declared.graph.Buf.{Buf}
use Rattle.graph_mean.specs.declared.graph.Ret.{Ret}
use Rattle.graph_mean.specs.declared.graph.Node.{Node}
use Rattle.graph_mean.specs.declared.graph.Node.TheVariants.{Rd, Wr, Xor, Cmt, Trm}
use Rattle.graph_mean.specs.Graph.{View, Vertex, blank, edge_count, edges_at, is_xor}
use Rattle.graph_text.specs.Format.{Named, Read, after_line, after_lines, at_text_end, is_name}
use Rattle.text_steps.specs.Steps.{at_line}
use Rattle.graph_text.specs.Steps.{has_name, nothing_read, graphs_in}
use Rattle.graph_text.specs.FormatForm.{AreGraphs, Differ, HasForm, IsLineOf, Literal, Number, IsWordBuf, IsWordKind, IsWordNode, IsWordRet, IsWritable, Place, after_places, body_lines, buffer_lines, buffer_places, end_places, file_lines, graph_lines, kind_places, new_places, node_lines, node_places, number_places, return_lines, return_places, start_places}
use Rattle.graph_text.specs.Canonical.{FileIsOfTheForm}
use Rattle.graph_text.proofs.CanonicalSteps.{AreSmall, bind_ok, fills_small, ok_same}
use Rattle.graph_text.proofs.CanonicalEntries.{Entry, Start, Buffer, Node as NodeEntry, Return, End, IsNext, after, entry_places, line_is, view_of}
use Rattle.graph_text.proofs.Same.{graphs_same}

-- ---- numbers

small_apart : (front back : List Place) → AreSmall (front ++ back) → AreSmall front × AreSmall back
small_apart [] back small = (tt, small)
small_apart (Literal text ∷ front) back small = small_apart front back small
small_apart (Number n ∷ front) back small = let rest = small_apart front back small.1 in ((small.0, rest.0), rest.1)

numbers_small : (ns : List ℕ) → AreSmall (number_places ns) → All (λ n. n < 2 ^ 32) ns
numbers_small [] small = All-nil (λ (n : ℕ). n < 2 ^ 32)
numbers_small (n ∷ ns) (first, small) = All-cons (λ (m : ℕ). m < 2 ^ 32) n ns first (numbers_small ns small)

antes_small : (ns : List ℕ) → AreSmall (after_places ns) → All (λ n. n < 2 ^ 32) ns
antes_small [] small = All-nil (λ (n : ℕ). n < 2 ^ 32)
antes_small (n ∷ ns) small = numbers_small (n ∷ ns) small

word_kind : (kind : Node) → AreSmall (kind_places kind) → IsWordKind kind
word_kind (Rd unit buf) (u, (b, e)) = (u, b)
word_kind (Wr unit buf) (u, (b, e)) = (u, b)
word_kind (Xor to) (t, e) = t
word_kind Cmt small = tt
word_kind Trm small = tt

word_buf : (n : ℕ) (buf : Buf) → AreSmall (buffer_places n buf) → IsWordBuf buf
word_buf n buf (index, (stripe, (from, (count, rest)))) = (stripe, from, count, go buf.new_of rest)
  where
    go : (o : Option ℕ) → AreSmall (new_places o) → ForSome o (λ unit. unit < 2 ^ 32)
    go None small x e = absurd (cc)
    go (Some unit) small x e = let is : unit ≡ x = cc in rw is at small.0

word_node : (n : ℕ) (v : Vertex) → AreSmall (node_places n v) → (is_xor v.kind ≡ false → v.sources ≡ []) → IsWordNode v
word_node n v (index, rest) sums =
    let kind = small_apart (kind_places v.kind) (number_places v.sources ++ after_places v.antes) rest in
    let more = small_apart (number_places v.sources) (after_places v.antes) kind.1 in
    record { kind = word_kind v.kind kind.0; sources = numbers_small v.sources more.0; antes = antes_small v.antes more.1; sums = sums }

word_ret : (ret : Ret) → AreSmall (return_places ret) → IsWordRet ret
word_ret ret (unit, (buf, e)) = (unit, buf)

-- ---- what stands between two lines

-- the graphs that have ended are a file's, and what is there of the one that goes on may stand behind them
abbrev Holds : List Named → Option Named → Type 0
Holds ended None = AreGraphs ended
Holds ended (Some g) = AreGraphs ended × (length ended < 64) × IsTrue (is_name g.name) × (has_name ended g.name ≡ false) × IsWritable g.graph

none_writable : IsWritable blank
none_writable = record { limits = record { bufs = omega arith; nodes = omega arith; rets = omega arith; edges = omega arith }; bufs = All-nil IsWordBuf; nodes = All-nil IsWordNode; rets = All-nil IsWordRet }

more_bufs : (g : View) (buf : Buf) → IsWritable g → length g.bufs < 2048 → IsWordBuf buf → IsWritable (record g { bufs = g.bufs ++ buf ∷ [] })
more_bufs g buf w few small =
    let l = w.limits in
    record { limits = record { bufs = omega (arith, length_push g.bufs buf); nodes = l.nodes; rets = l.rets; edges = l.edges }; bufs = All-push IsWordBuf g.bufs buf w.bufs small; nodes = w.nodes; rets = w.rets }

more_nodes : (g : View) (v : Vertex) → IsWritable g → length g.nodes < 2048 → edge_count g + edges_at v ≤ 16384 → IsWordNode v → IsWritable (record g { nodes = g.nodes ++ v ∷ [] })
more_nodes g v w few edges small =
    let l = w.limits in
    let total : edge_count (record g { nodes = g.nodes ++ v ∷ [] }) ≡ edge_count g + edges_at v = sum_by_push edges_at g.nodes v in
    record { limits = record { bufs = l.bufs; nodes = omega (arith, length_push g.nodes v); rets = l.rets; edges = omega arith }; bufs = w.bufs; nodes = All-push IsWordNode g.nodes v w.nodes small; rets = w.rets }

more_rets : (g : View) (ret : Ret) → IsWritable g → length g.rets < 2048 → IsWordRet ret → IsWritable (record g { rets = g.rets ++ ret ∷ [] })
more_rets g ret w few small =
    let l = w.limits in
    record { limits = record { bufs = l.bufs; nodes = l.nodes; rets = omega (arith, length_push g.rets ret); edges = l.edges }; bufs = w.bufs; nodes = w.nodes; rets = All-push IsWordRet g.rets ret w.rets small }

-- ---- names

or_false : (a b : Bool) → (a || b) ≡ false → (a ≡ false) × (b ≡ false)
or_false true b h = absurd (cc)
or_false false b h = (refl, h)

-- a graph of another name than these is none of them
other_than : (graphs : List Named) (name : Text) (i : ℕ) (d : Named) → has_name graphs name ≡ false → i < length graphs → (get_or graphs i d).name ≢ name
unfolding has_name
other_than [] name i d h lt = absurd (omega arith)
other_than (g ∷ graphs) name zero d h lt = λ e. let same = (bytes_eq-Decides g.name name).1 e in let differs = (or_false (bytes_eq g.name name) (has_name graphs name) h).0 in absurd (cc)
other_than (g ∷ graphs) name (suc i) d h lt = other_than graphs name i d (or_false (bytes_eq g.name name) (has_name graphs name) h).1 (omega arith)

last_is : (graphs : List Named) (g d : Named) → get_or (graphs ++ g ∷ []) (length graphs) d ≡ g
last_is [] g d = refl
last_is (x ∷ graphs) g d = last_is graphs g d

differ_push : (graphs : List Named) (g : Named) → has_name graphs g.name ≡ false → Differ graphs → Differ (graphs ++ g ∷ [])
differ_push graphs g other was i j d e lt h = ⊎_elim
    (λ inside. λ same. was i j d e lt inside (sym (ap (λ (x : Named). x.name) (get_or_append_left graphs (g ∷ []) d i (omega arith))) ∙ (same ∙ ap (λ (x : Named). x.name) (get_or_append_left graphs (g ∷ []) e j inside))))
    (λ last. λ same.
    let at : j ≡ length graphs = omega (arith, length_push graphs g) in
    let is : (get_or (graphs ++ g ∷ []) j e).name ≡ g.name = ap (λ (k : ℕ). (get_or (graphs ++ g ∷ []) k e).name) at ∙ ap (λ (x : Named). x.name) (last_is graphs g e) in
    other_than graphs g.name i d other (omega arith) (sym (ap (λ (x : Named). x.name) (get_or_append_left graphs (g ∷ []) d i (omega arith))) ∙ (same ∙ is)))
    (cases_lt j (length graphs))

one_graph_more : (graphs : List Named) (g : Named) → AreGraphs graphs → length graphs < 64 → IsTrue (is_name g.name) → has_name graphs g.name ≡ false → IsWritable g.graph → AreGraphs (graphs ++ g ∷ [])
one_graph_more graphs g are few named other writable = record {
  few = omega (arith, length_push graphs g);
  named = All-push (λ x. IsTrue (is_name x.name)) graphs g are.named named;
  differ = differ_push graphs g other are.differ;
  writable = All-push (λ x. IsWritable x.graph) graphs g are.writable writable;
}

-- ---- one line more

still_holds : (ended : List Named) (current : Option Named) (entry : Entry) → Holds ended current → IsNext ended current entry → AreSmall (entry_places (view_of current) entry)
    → Holds (after ended current entry).ended (after ended current entry).current
still_holds ended None (Start name) are (named, other, few) small = (are, few, named, other, none_writable)
still_holds ended None (Buffer buf) are may small = absurd may
still_holds ended None (NodeEntry v) are may small = absurd may
still_holds ended None (Return ret) are may small = absurd may
still_holds ended None End are may small = absurd may
still_holds ended (Some g) (Start name) are may small = absurd may
still_holds ended (Some g) (Buffer buf) (are, room, named, other, w) (nodes, rets, few) small = (are, room, named, other, more_bufs g.graph buf w few (word_buf (length g.graph.bufs) buf small))
still_holds ended (Some g) (NodeEntry v) (are, room, named, other, w) (rets, few, edges, sums) small = (are, room, named, other, more_nodes g.graph v w few edges (word_node (length g.graph.nodes) v small sums))
still_holds ended (Some g) (Return ret) (are, room, named, other, w) few small = (are, room, named, other, more_rets g.graph ret w few (word_ret ret small))
still_holds ended (Some g) End (are, room, named, other, w) may small = one_graph_more ended g are room named other w

-- the lines of a graph between its first and its last
abbrev open_lines : View → List (List Place)
open_lines g = buffer_lines 0 g.bufs ++ (node_lines 0 g.nodes ++ return_lines g.rets)

-- the lines up to here
abbrev lines_so_far : List Named → Option Named → List (List Place)
lines_so_far ended None = file_lines ended
lines_so_far ended (Some g) = file_lines ended ++ (start_places g.name ∷ open_lines g.graph)

buffers_push : (n k : ℕ) (bufs : List Buf) (buf : Buf) → k ≡ n + length bufs → buffer_lines n (bufs ++ buf ∷ []) ≡ buffer_lines n bufs ++ buffer_places k buf ∷ []
unfolding buffer_lines
buffers_push n k [] buf e = let is : n ≡ k = omega arith in rw is refl
buffers_push n k (b ∷ bufs) buf e = ap (λ (lines : List (List Place)). buffer_places n b ∷ lines) (buffers_push (n + 1) k bufs buf (omega arith))

nodes_push : (n k : ℕ) (nodes : List Vertex) (v : Vertex) → k ≡ n + length nodes → node_lines n (nodes ++ v ∷ []) ≡ node_lines n nodes ++ node_places k v ∷ []
unfolding node_lines
nodes_push n k [] v e = let is : n ≡ k = omega arith in rw is refl
nodes_push n k (b ∷ nodes) v e = ap (λ (lines : List (List Place)). node_places n b ∷ lines) (nodes_push (n + 1) k nodes v (omega arith))

no_nodes : node_lines 0 [] ≡ []
unfolding node_lines
no_nodes = refl

open_buffer : (g : View) (buf : Buf) → g.nodes ≡ [] → g.rets ≡ [] → open_lines (record g { bufs = g.bufs ++ buf ∷ [] }) ≡ open_lines g ++ buffer_places (length g.bufs) buf ∷ []
open_buffer g buf nodes rets =
    let one = buffer_places (length g.bufs) buf ∷ [] in
    let none : node_lines 0 g.nodes ++ return_lines g.rets ≡ [] = rw (nodes, rets, no_nodes) refl in
    ap (λ (rest : List (List Place)). buffer_lines 0 (g.bufs ++ buf ∷ []) ++ rest) none
    ∙ append-nil (buffer_lines 0 (g.bufs ++ buf ∷ []))
    ∙ buffers_push 0 (length g.bufs) g.bufs buf (omega arith)
    ∙ ap (λ (lines : List (List Place)). lines ++ one) (sym (append-nil (buffer_lines 0 g.bufs)) ∙ ap (λ (rest : List (List Place)). buffer_lines 0 g.bufs ++ rest) (sym none))

open_node : (g : View) (v : Vertex) → g.rets ≡ [] → open_lines (record g { nodes = g.nodes ++ v ∷ [] }) ≡ open_lines g ++ node_places (length g.nodes) v ∷ []
open_node g v rets =
    let one = node_places (length g.nodes) v ∷ [] in
    let bufs = buffer_lines 0 g.bufs in
    let none : return_lines g.rets ≡ [] = rw rets refl in
    ap (λ (rest : List (List Place)). bufs ++ (node_lines 0 (g.nodes ++ v ∷ []) ++ rest)) none
    ∙ ap (λ (rest : List (List Place)). bufs ++ rest) (append-nil (node_lines 0 (g.nodes ++ v ∷ [])) ∙ nodes_push 0 (length g.nodes) g.nodes v (omega arith))
    ∙ sym (append_assoc bufs (node_lines 0 g.nodes) one)
    ∙ ap (λ (lines : List (List Place)). (bufs ++ lines) ++ one) (sym (append-nil (node_lines 0 g.nodes)) ∙ ap (λ (rest : List (List Place)). node_lines 0 g.nodes ++ rest) (sym none))

open_return : (g : View) (ret : Ret) → open_lines (record g { rets = g.rets ++ ret ∷ [] }) ≡ open_lines g ++ return_places ret ∷ []
open_return g ret =
    let one = return_places ret ∷ [] in
    let bufs = buffer_lines 0 g.bufs in
    let nodes = node_lines 0 g.nodes in
    ap (λ (rest : List (List Place)). bufs ++ (nodes ++ rest)) (map-append return_places g.rets (ret ∷ []))
    ∙ ap (λ (rest : List (List Place)). bufs ++ rest) (sym (append_assoc nodes (return_lines g.rets) one))
    ∙ sym (append_assoc bufs (nodes ++ return_lines g.rets) one)

-- all lines of a graph are those up to its end, and the last
graph_open : (g : Named) → graph_lines g ≡ (start_places g.name ∷ open_lines g.graph) ++ end_places ∷ []
unfolding graph_lines body_lines
graph_open g =
    let bufs = buffer_lines 0 g.graph.bufs in
    let nodes = node_lines 0 g.graph.nodes in
    let rets = return_lines g.graph.rets in
    let last = end_places ∷ [] in
    ap (λ (lines : List (List Place)). start_places g.name ∷ lines) (ap (λ (rest : List (List Place)). bufs ++ rest) (sym (append_assoc nodes rets last)) ∙ sym (append_assoc bufs (nodes ++ rets) last))

pub file_push : (graphs : List Named) (g : Named) → file_lines (graphs ++ g ∷ []) ≡ file_lines graphs ++ graph_lines g
unfolding file_lines
file_push graphs g = flat_map-append graph_lines graphs (g ∷ []) ∙ ap (λ (lines : List (List Place)). flat_map graph_lines graphs ++ lines) (append-nil (graph_lines g))

start_only : (ended : List Named) (name : Text) → file_lines ended ++ (start_places name ∷ open_lines blank) ≡ file_lines ended ++ start_places name ∷ []
unfolding buffer_lines node_lines
start_only ended name = refl

one_line_more : (ended : List Named) (current : Option Named) (entry : Entry) → IsNext ended current entry
    → lines_so_far (after ended current entry).ended (after ended current entry).current ≡ lines_so_far ended current ++ entry_places (view_of current) entry ∷ []
one_line_more ended None (Start name) may = start_only ended name
one_line_more ended None (Buffer buf) may = absurd may
one_line_more ended None (NodeEntry v) may = absurd may
one_line_more ended None (Return ret) may = absurd may
one_line_more ended None End may = absurd may
one_line_more ended (Some g) (Start name) may = absurd may
one_line_more ended (Some g) (Buffer buf) (nodes, rets, few) =
    ap (λ (lines : List (List Place)). file_lines ended ++ (start_places g.name ∷ lines)) (open_buffer g.graph buf nodes rets)
    ∙ sym (append_assoc (file_lines ended) (start_places g.name ∷ open_lines g.graph) (buffer_places (length g.graph.bufs) buf ∷ []))
one_line_more ended (Some g) (NodeEntry v) (rets, few, edges, sums) =
    ap (λ (lines : List (List Place)). file_lines ended ++ (start_places g.name ∷ lines)) (open_node g.graph v rets)
    ∙ sym (append_assoc (file_lines ended) (start_places g.name ∷ open_lines g.graph) (node_places (length g.graph.nodes) v ∷ []))
one_line_more ended (Some g) (Return ret) may =
    ap (λ (lines : List (List Place)). file_lines ended ++ (start_places g.name ∷ lines)) (open_return g.graph ret)
    ∙ sym (append_assoc (file_lines ended) (start_places g.name ∷ open_lines g.graph) (return_places ret ∷ []))
one_line_more ended (Some g) End may =
    file_push ended g
    ∙ ap (λ (lines : List (List Place)). file_lines ended ++ lines) (graph_open g)
    ∙ sym (append_assoc (file_lines ended) (start_places g.name ∷ open_lines g.graph) (end_places ∷ []))

-- ---- all lines

form_push : (form : List (List Place)) (places : List Place) (lines : List Numbered) (line : Numbered) → HasForm form lines → IsLineOf places line → HasForm (form ++ places ∷ []) (lines ++ line ∷ [])
form_push [] places [] line has one = (one, tt)
form_push [] places (x ∷ lines) line has one = absurd has
form_push (p ∷ form) places [] line has one = absurd has
form_push (p ∷ form) places (x ∷ lines) line (first, has) one = (first, form_push form places lines line has one)

-- what was read of the lines up to here, and what is left of the file's
abbrev IsSoFar : Read → List Numbered → Type 0
IsSoFar read done = Holds read.ended read.current × HasForm (lines_so_far read.ended read.current) done

line_ok : (n : ℕ) (r : Result Read ℕ) (next : Read) → at_line n r ≡ Ok next → r ≡ Ok next
line_ok n (Ok x) next h = ap (λ (y : Read). Ok y) (ok_same x next h)
line_ok n (Err code) next h = absurd (cc)

next_so_far : (read : Read) (line : Numbered) (next : Read) (done : List Numbered) → after_line read line ≡ Ok next → IsSoFar read done → IsSoFar next (done ++ line ∷ [])
next_so_far read line next done h (holds, has) =
    let r = line_is read line next h in
    let places = entry_places (view_of read.current) r.entry in
    let small = fills_small places r.form.0 r.form.2 in
    subst (λ (x : Read). IsSoFar x (done ++ line ∷ [])) r.is (
      still_holds read.ended read.current r.entry holds r.may small,
      subst (λ (form : List (List Place)). HasForm form (done ++ line ∷ [])) (sym (one_line_more read.ended read.current r.entry r.may)) (form_push (lines_so_far read.ended read.current) places done line has r.form),
    )

all_so_far : (lines : List Numbered) (read last : Read) (done : List Numbered) → after_lines read lines ≡ Ok last → IsSoFar read done → IsSoFar last (done ++ lines)
unfolding after_lines
all_so_far [] read last done h so_far = subst (λ (x : Read). IsSoFar x (done ++ [])) (ok_same read last h) (subst (λ (d : List Numbered). IsSoFar read d) (sym (append-nil done)) so_far)
all_so_far (line ∷ lines) read last done h so_far =
    let next = bind_ok (at_line line.at (after_line read line)) _ last h in
    let more = all_so_far lines next.0 last (done ++ line ∷ []) next.2 (next_so_far read line next.0 done (line_ok line.at (after_line read line) next.0 next.1) so_far) in
    subst (λ (d : List Numbered). IsSoFar last d) (append_assoc done (line ∷ []) lines) more

no_graphs : AreGraphs []
no_graphs = record { few = omega arith; named = All-nil (λ (g : Named). IsTrue (is_name g.name)); differ = λ i j g h lt bad. absurd (omega arith); writable = All-nil (λ (g : Named). IsWritable g.graph) }

first_so_far : IsSoFar nothing_read []
unfolding file_lines
first_so_far = (no_graphs, tt)

pub file_of_form : FileIsOfTheForm
unfolding graphs_in
file_of_form text graphs h =
    let read : graphs_in text ≡ Ok graphs = sym (graphs_same text) ∙ h in
    let r = bind_ok (after_lines nothing_read (lines_in text)) _ graphs read in
    go r.0.ended r.0.current r.2 (all_so_far (lines_in text) nothing_read r.0 [] r.1 first_so_far)
  where
    go : (ended : List Named) (current : Option Named) → at_text_end (length (raw_lines text)) ended current ≡ Ok graphs → Holds ended current × HasForm (lines_so_far ended current) (lines_in text)
        → AreGraphs graphs × HasForm (file_lines graphs) (lines_in text)
    go ended None e so_far = subst (λ (gs : List Named). AreGraphs gs × HasForm (file_lines gs) (lines_in text)) (ok_same ended graphs e) so_far
    go ended (Some g) e so_far = absurd (cc)
