-- That each file of the form is read.
use Rattle.std.proofs.Common.{◌≡◌, ◌≢◌, ◌∙◌, ℕ, ◌+◌, ◌<◌, ◌≤◌, suc, Bool, true, false, List, [], ◌∷◌, ◌++◌, Some, None, Ok, refl, sym, ap, subst, length, get_or, arith, append_assoc, append-nil, length-append, All}
use Rattle.std.specs.Prelude.{◌||◌, IsTrue, flat_map}
use Rattle.std.specs.List.{sum_by}
use Rattle.std.specs.Str.{bytes_eq}
use Rattle.std.proofs.lemmas.List.{get_or_append_left, length_push}
use Rattle.std.proofs.lemmas.List.Elements.{All-head, All-tail}
use Rattle.std.proofs.lemmas.List.Sums.{sum_by_push, sum_by-cons}
use Rattle.std.proofs.lemmas.Slice.Eq.{bytes_eq-Decides}
use Rattle.std.proofs.Math.Seq.{get_or-append_seam}
use Rattle.raid_text.specs.Text.{Text, Numbered, lines_in}
use Rattle.graph_mean.specs.declared.graph.Buf.{Buf}
use Rattle.graph_mean.specs.declared.graph.Ret.{Ret}
use Rattle.graph_mean.specs.Graph.{View, Vertex, edges_at}
use Rattle.graph_text.specs.Format.{Named, Read, after_lines, is_name}
use Rattle.graph_text.specs.Steps.{has_name, graphs_in}
use Rattle.graph_text.specs.FormatForm.{AreGraphs, Differ, HasForm, IsWordNode, IsWritable, Place, body_lines, buffer_lines, end_places, file_lines, graph_lines, node_lines, return_lines, start_places}
use Rattle.graph_text.specs.Canonical.{FileIsRead}
use Rattle.graph_text.proofs.CanonicalEntries.{Entry, Start, Buffer, Node, Return, End, IsNext, after, entry_places, line_read, view_of}
use Rattle.graph_text.proofs.Same.{graphs_same}

-- the first lines take the reading so far, and more stand behind them
record IsFrontRead (read : Read) (more : List (List Place)) (lines : List Numbered) (next : Read) : Type 0 where
  rest : List Numbered
  form : HasForm more rest
  same : after_lines read lines ≡ after_lines next rest

front_line : (read : Read) (entry : Entry) (more : List (List Place)) (lines : List Numbered) → IsNext read.ended read.current entry → HasForm (entry_places (view_of read.current) entry ∷ more) lines
    → IsFrontRead read more lines (after read.ended read.current entry)
unfolding after_lines
front_line read entry more [] may has = absurd has
front_line read entry more (line ∷ lines) may (one, has) = record { rest = lines; form = has; same = rw (line_read read entry line may one) refl }

-- none of the lines
front_none : (read : Read) (more : List (List Place)) (lines : List Numbered) → HasForm more lines → IsFrontRead read more lines read
front_none read more lines has = record { rest = lines; form = has; same = refl }

-- some lines, and more behind them
front_then : (read : Read) (between : List (List Place)) (lines : List Numbered) (mid : Read) (more : List (List Place)) (next : Read) (a : IsFrontRead read between lines mid) → IsFrontRead mid more a.rest next → IsFrontRead read more lines next
front_then read between lines mid more next a b = record { rest = b.rest; form = b.form; same = a.same ∙ b.same }

-- ---- the lines of a graph

-- a graph that goes on
abbrev going : List Named → Text → View → Read
going ended name g = record { ended = ended; current = Some (record { name = name; graph = g }) }

buffers_read : (ended : List Named) (name : Text) (before bufs : List Buf) (more : List (List Place)) (lines : List Numbered) → length before + length bufs ≤ 2048 → HasForm (buffer_lines (length before) bufs ++ more) lines
    → IsFrontRead (going ended name (record { bufs = before; nodes = []; rets = [] })) more lines (going ended name (record { bufs = before ++ bufs; nodes = []; rets = [] }))
unfolding buffer_lines
buffers_read ended name before [] more lines few has =
    subst (λ (bs : List Buf). IsFrontRead (going ended name (record { bufs = before; nodes = []; rets = [] })) more lines (going ended name (record { bufs = bs; nodes = []; rets = [] }))) (sym (append-nil before))
    (front_none (going ended name (record { bufs = before; nodes = []; rets = [] })) more lines has)
buffers_read ended name before (buf ∷ bufs) more lines few has =
    let start = going ended name (record { bufs = before; nodes = []; rets = [] }) in
    let mid = going ended name (record { bufs = before ++ buf ∷ []; nodes = []; rets = [] }) in
    let rest = buffer_lines (length before + 1) bufs ++ more in
    let one = front_line start (Buffer buf) rest lines (refl, refl, omega arith) has in
    let long : length (before ++ buf ∷ []) ≡ length before + 1 = length_push before buf in
    let form : HasForm (buffer_lines (length (before ++ buf ∷ [])) bufs ++ more) one.rest = subst (λ (n : ℕ). HasForm (buffer_lines n bufs ++ more) one.rest) (sym long) one.form in
    let others = buffers_read ended name (before ++ buf ∷ []) bufs more one.rest (omega arith) form in
    subst (λ (bs : List Buf). IsFrontRead start more lines (going ended name (record { bufs = bs; nodes = []; rets = [] }))) (append_assoc before (buf ∷ []) bufs)
    (front_then start rest lines mid more (going ended name (record { bufs = (before ++ buf ∷ []) ++ bufs; nodes = []; rets = [] })) one others)

nodes_read : (ended : List Named) (name : Text) (bufs : List Buf) (before nodes : List Vertex) (more : List (List Place)) (lines : List Numbered) → length before + length nodes ≤ 2048 → sum_by edges_at before + sum_by edges_at nodes ≤ 16384
    → All IsWordNode nodes → HasForm (node_lines (length before) nodes ++ more) lines
    → IsFrontRead (going ended name (record { bufs = bufs; nodes = before; rets = [] })) more lines (going ended name (record { bufs = bufs; nodes = before ++ nodes; rets = [] }))
unfolding node_lines
nodes_read ended name bufs before [] more lines few edges are has =
    subst (λ (vs : List Vertex). IsFrontRead (going ended name (record { bufs = bufs; nodes = before; rets = [] })) more lines (going ended name (record { bufs = bufs; nodes = vs; rets = [] }))) (sym (append-nil before))
    (front_none (going ended name (record { bufs = bufs; nodes = before; rets = [] })) more lines has)
nodes_read ended name bufs before (v ∷ nodes) more lines few edges are has =
    let start = going ended name (record { bufs = bufs; nodes = before; rets = [] }) in
    let mid = going ended name (record { bufs = bufs; nodes = before ++ v ∷ []; rets = [] }) in
    let rest = node_lines (length before + 1) nodes ++ more in
    let first = All-head IsWordNode v nodes are in
    let total = sum_by-cons edges_at v nodes in
    let one = front_line start (Node v) rest lines (refl, omega arith, omega (arith, total), first.sums) has in
    let long : length (before ++ v ∷ []) ≡ length before + 1 = length_push before v in
    let form : HasForm (node_lines (length (before ++ v ∷ [])) nodes ++ more) one.rest = subst (λ (n : ℕ). HasForm (node_lines n nodes ++ more) one.rest) (sym long) one.form in
    let others = nodes_read ended name bufs (before ++ v ∷ []) nodes more one.rest (omega arith) (omega (arith, total, sum_by_push edges_at before v)) (All-tail IsWordNode v nodes are) form in
    subst (λ (vs : List Vertex). IsFrontRead start more lines (going ended name (record { bufs = bufs; nodes = vs; rets = [] }))) (append_assoc before (v ∷ []) nodes)
    (front_then start rest lines mid more (going ended name (record { bufs = bufs; nodes = (before ++ v ∷ []) ++ nodes; rets = [] })) one others)

returns_read : (ended : List Named) (name : Text) (bufs : List Buf) (nodes : List Vertex) (before rets : List Ret) (more : List (List Place)) (lines : List Numbered) → length before + length rets ≤ 2048 → HasForm (return_lines rets ++ more) lines
    → IsFrontRead (going ended name (record { bufs = bufs; nodes = nodes; rets = before })) more lines (going ended name (record { bufs = bufs; nodes = nodes; rets = before ++ rets }))
returns_read ended name bufs nodes before [] more lines few has =
    subst (λ (rs : List Ret). IsFrontRead (going ended name (record { bufs = bufs; nodes = nodes; rets = before })) more lines (going ended name (record { bufs = bufs; nodes = nodes; rets = rs }))) (sym (append-nil before))
    (front_none (going ended name (record { bufs = bufs; nodes = nodes; rets = before })) more lines has)
returns_read ended name bufs nodes before (ret ∷ rets) more lines few has =
    let start = going ended name (record { bufs = bufs; nodes = nodes; rets = before }) in
    let mid = going ended name (record { bufs = bufs; nodes = nodes; rets = before ++ ret ∷ [] }) in
    let rest = return_lines rets ++ more in
    let one = front_line start (Return ret) rest lines (omega arith) has in
    let others = returns_read ended name bufs nodes (before ++ ret ∷ []) rets more one.rest (omega (arith, length_push before ret)) one.form in
    subst (λ (rs : List Ret). IsFrontRead start more lines (going ended name (record { bufs = bufs; nodes = nodes; rets = rs }))) (append_assoc before (ret ∷ []) rets)
    (front_then start rest lines mid more (going ended name (record { bufs = bufs; nodes = nodes; rets = (before ++ ret ∷ []) ++ rets })) one others)

lines_behind : (bufs nodes rets more : List (List Place)) (last : List Place) → (bufs ++ (nodes ++ (rets ++ last ∷ []))) ++ more ≡ bufs ++ (nodes ++ (rets ++ last ∷ more))
lines_behind bufs nodes rets more last =
    append_assoc bufs (nodes ++ (rets ++ last ∷ [])) more
    ∙ ap (λ (rest : List (List Place)). bufs ++ rest) (append_assoc nodes (rets ++ last ∷ []) more ∙ ap (λ (rest : List (List Place)). nodes ++ rest) (append_assoc rets (last ∷ []) more))

-- between two graphs
abbrev between : List Named → Read
between ended = record { ended = ended; current = None }

graph_read : (ended : List Named) (g : Named) (more : List (List Place)) (lines : List Numbered) → IsTrue (is_name g.name) → has_name ended g.name ≡ false → length ended < 64 → IsWritable g.graph → HasForm (graph_lines g ++ more) lines
    → IsFrontRead (between ended) more lines (between (ended ++ g ∷ []))
unfolding graph_lines body_lines
graph_read ended g more lines named other few writable has =
    let l = writable.limits in
    let v = g.graph in
    let bufs = buffer_lines 0 v.bufs in
    let nodes = node_lines 0 v.nodes in
    let rets = return_lines v.rets in
    let last = end_places ∷ more in
    let form : HasForm (start_places g.name ∷ (bufs ++ (nodes ++ (rets ++ last)))) lines = subst (λ (form : List (List Place)). HasForm (start_places g.name ∷ form) lines) (lines_behind bufs nodes rets more end_places) has in
    let a = front_line (between ended) (Start g.name) (bufs ++ (nodes ++ (rets ++ last))) lines (named, other, few) form in
    let limit_bufs = l.bufs in
    let limit_nodes = l.nodes in
    let limit_rets = l.rets in
    let limit_edges = l.edges in
    let b = buffers_read ended g.name [] v.bufs (nodes ++ (rets ++ last)) a.rest (omega arith) a.form in
    let c = nodes_read ended g.name v.bufs [] v.nodes (rets ++ last) b.rest (omega arith) (omega arith) writable.nodes b.form in
    let d = returns_read ended g.name v.bufs v.nodes [] v.rets last c.rest (omega arith) c.form in
    let e = front_line (going ended g.name v) End more d.rest tt d.form in
    record { rest = e.rest; form = e.form; same = a.same ∙ (b.same ∙ (c.same ∙ (d.same ∙ e.same))) }

-- ---- the graphs of a file

-- what holds of all holds of the one behind the first ones
middle : {A : Type 0} (P : A → Type 0) (xs : List A) (x : A) (ys : List A) → All P (xs ++ x ∷ ys) → P x
middle P xs x ys all = subst P (get_or-append_seam xs x ys x) (all (length xs) x (omega (arith, length-append xs (x ∷ ys))))

name_other : (graphs : List Named) (name : Text) → ((i : ℕ) (d : Named) → i < length graphs → (get_or graphs i d).name ≢ name) → has_name graphs name ≡ false
unfolding has_name
name_other [] name others = refl
name_other (g ∷ graphs) name others = go (bytes_eq g.name name) (bytes_eq-Decides g.name name).0 (name_other graphs name (λ i d lt. others (suc i) d (omega arith)))
  where
    go : (b : Bool) → (b ≡ true → g.name ≡ name) → has_name graphs name ≡ false → (b || has_name graphs name) ≡ false
    go true same rest = absurd (others 0 g (omega arith) (same refl))
    go false same rest = rest

-- the first graphs have other names than the one behind them
name_differs : (graphs : List Named) (g : Named) (more : List Named) → Differ (graphs ++ g ∷ more) → has_name graphs g.name ≡ false
name_differs graphs g more apart = name_other graphs g.name (λ i d lt. λ same.
    let fits : length graphs < length (graphs ++ g ∷ more) = omega (arith, length-append graphs (g ∷ more)) in
    let last : (get_or (graphs ++ g ∷ more) (length graphs) d).name ≡ g.name = ap (λ (x : Named). x.name) (get_or-append_seam graphs g more d) in
    apart i (length graphs) d d lt fits (ap (λ (x : Named). x.name) (get_or_append_left graphs (g ∷ more) d i lt) ∙ (same ∙ sym last)))

file_on : (ended graphs : List Named) (lines : List Numbered) → AreGraphs (ended ++ graphs) → HasForm (file_lines graphs) lines → after_lines (between ended) lines ≡ Ok (between (ended ++ graphs))
unfolding file_lines after_lines
file_on ended [] [] are has = ap (λ (gs : List Named). Ok (between gs)) (sym (append-nil ended))
file_on ended [] (line ∷ lines) are has = absurd has
file_on ended (g ∷ graphs) lines are has =
    let total = are.few in
    let few : length ended < 64 = omega (arith, length-append ended (g ∷ graphs)) in
    let one = graph_read ended g (flat_map graph_lines graphs) lines (middle (λ x. IsTrue (is_name x.name)) ended g graphs are.named) (name_differs ended g graphs are.differ) few (middle (λ x. IsWritable x.graph) ended g graphs are.writable) has in
    let together = append_assoc ended (g ∷ []) graphs in
    let others = file_on (ended ++ g ∷ []) graphs one.rest (subst AreGraphs (sym together) are) one.form in
    one.same ∙ (others ∙ ap (λ (gs : List Named). Ok (between gs)) together)

pub file_read : FileIsRead
unfolding graphs_in
file_read text graphs are has =
    let read : graphs_in text ≡ Ok graphs = rw (file_on [] graphs (lines_in text) are has) refl in
    graphs_same text ∙ read
