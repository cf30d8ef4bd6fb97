-- How long a graph's canonical text can be.
use Rattle.std.proofs.Common.{◌≡◌, ℕ, ◌+◌, ◌*◌, ◌<◌, ◌≤◌, ◌^◌, List, [], ◌∷◌, ◌++◌, Option, Some, None, length, refl, ap, arith, All, length-append}
use Rattle.std.specs.Prelude.{◌&&◌, codes, decimal, nat_le, true}
use Rattle.std.specs.List.{list_all, sum_by}
use Rattle.std.specs.Option.{ForSome}
use Rattle.std.proofs.lemmas.Bool.{and_parts, leb-true}
use Rattle.std.proofs.lemmas.Fmt.{length-decimal-le}
use Rattle.std.proofs.lemmas.List.Elements.{All-head, All-tail}
use Rattle.std.proofs.lemmas.List.Sums.{sum_by-cons}
use Rattle.raid_text.specs.Text.{Text}
use Rattle.graph_mean.specs.declared.graph.Buf.{Buf}
use Rattle.graph_mean.specs.declared.graph.Ret.{Ret}
use Rattle.graph_mean.specs.declared.graph.Node.{Node}
use Rattle.graph_mean.specs.declared.graph.Node.TheVariants.{Rd, Wr, Xor, Cmt, Trm}
use Rattle.graph_mean.specs.Graph.{Vertex, edges_at}
use Rattle.graph_text.specs.Format.{Named, is_name}
use Rattle.graph_text.specs.Steps.{is_name_byte}
use Rattle.graph_text.specs.FormatForm.{IsWordBuf, IsWordKind, IsWordNode, IsWordRet, IsWritable, Literal, Number, Place, after_places, buffer_lines, buffer_places, end_places, graph_text, kind_places, new_places, node_lines, node_places, number_places, printed, return_lines, return_places, start_places}
use Rattle.graph_text.specs.Printing.{line_text, lines_text, spaced}
use Rattle.graph_text.proofs.PrintedLines.{graph_is, line_of}

-- ---- a line

number_length : (n : ℕ) → n < 2 ^ 32 → length (decimal n) ≤ 10
number_length n small = length-decimal-le 10 n (omega arith) (omega arith) (omega arith)

-- a place, and those behind it
place_more : (place : Place) (places : List Place) → length (spaced (place ∷ places)) ≡ 1 + length (printed place) + length (spaced places)
place_more place places = omega (arith, length-append (32 ∷ printed place) (spaced places))

number_more : (n : ℕ) (places : List Place) (k : ℕ) → n < 2 ^ 32 → length (spaced places) ≤ k → length (spaced (Number n ∷ places)) ≤ 11 + k
number_more n places k small few = omega (arith, place_more (Number n) places, number_length n small)

word_more : (text : Text) (places : List Place) (k : ℕ) → length (spaced places) ≤ k → length (spaced (Literal text ∷ places)) ≤ 1 + length text + k
word_more text places k few = omega (arith, place_more (Literal text) places)

places_more : (front back : List Place) → length (spaced (front ++ back)) ≡ length (spaced front) + length (spaced back)
places_more [] back = omega arith
places_more (place ∷ front) back = omega (arith, place_more place front, place_more place (front ++ back), places_more front back)

numbers_length : (ns : List ℕ) → All (λ n. n < 2 ^ 32) ns → length (spaced (number_places ns)) ≤ 11 * length ns
numbers_length [] are = omega arith
numbers_length (n ∷ ns) are =
    let more = number_more n (number_places ns) (11 * length ns) (All-head (λ (m : ℕ). m < 2 ^ 32) n ns are) (numbers_length ns (All-tail (λ (m : ℕ). m < 2 ^ 32) n ns are)) in
    omega arith

line_length : (word : Text) (places : List Place) (k : ℕ) → length (spaced places) ≤ k → length (line_text (Literal word ∷ places)) ≤ length word + k + 1
line_length word places k few = omega (arith, ap length (line_of word places), length-append (word ++ spaced places) (10 ∷ []), length-append word (spaced places))

-- ---- the lines of a graph

start_length : (name : Text) → is_name name ≡ true → length (line_text (start_places name)) ≤ 39
unfolding is_name
start_length name h =
    let both = and_parts (nat_le 1 (length name) && nat_le (length name) 32) (list_all is_name_byte name) h in
    let short = leb-true (length name) 32 (and_parts (nat_le 1 (length name)) (nat_le (length name) 32) both.0).1 in
    let words = word_more name [] 0 (omega arith) in
    let line = line_length (codes "graph") (Literal name ∷ []) (1 + length name + 0) words in
    omega arith

new_length : (o : Option ℕ) → ForSome o (λ u. u < 2 ^ 32) → length (spaced (new_places o)) ≤ 15
new_length None small = omega arith
new_length (Some u) small = word_more (codes "new") (Number u ∷ []) 11 (number_more u [] 0 (small u refl) (omega arith))

buffer_length : (n : ℕ) (buf : Buf) → n < 2 ^ 32 → IsWordBuf buf → length (line_text (buffer_places n buf)) ≤ 84
buffer_length n buf index (stripe, from, count, unit) =
    let rest = new_places buf.new_of in
    let a = word_more (codes "count") (Number buf.count ∷ rest) 26 (number_more buf.count rest 15 count (new_length buf.new_of unit)) in
    let b = word_more (codes "from") (Number buf.from ∷ Literal (codes "count") ∷ Number buf.count ∷ rest) 43 (number_more buf.from (Literal (codes "count") ∷ Number buf.count ∷ rest) 32 from a) in
    let behind = Literal (codes "from") ∷ Number buf.from ∷ Literal (codes "count") ∷ Number buf.count ∷ rest in
    let d = word_more (codes "stripe") (Number buf.stripe ∷ behind) 59 (number_more buf.stripe behind 48 stripe b) in
    line_length (codes "buffer") (Number n ∷ Literal (codes "stripe") ∷ Number buf.stripe ∷ behind) 77 (number_more n (Literal (codes "stripe") ∷ Number buf.stripe ∷ behind) 66 index d)

pair_length : (text : Text) (a b : ℕ) → a < 2 ^ 32 → b < 2 ^ 32 → length (spaced (Literal text ∷ Number a ∷ Number b ∷ [])) ≤ 1 + length text + 22
pair_length text a b small less = word_more text (Number a ∷ Number b ∷ []) 22 (number_more a (Number b ∷ []) 11 small (number_more b [] 0 less (omega arith)))

kind_length : (kind : Node) → IsWordKind kind → length (spaced (kind_places kind)) ≤ 28
kind_length (Rd unit buf) (u, b) = let h = pair_length (codes "read") unit buf u b in omega arith
kind_length (Wr unit buf) (u, b) = pair_length (codes "write") unit buf u b
kind_length (Xor to) t = let h = word_more (codes "xor") (Number to ∷ []) 11 (number_more to [] 0 t (omega arith)) in omega arith
kind_length Cmt small = let h = word_more (codes "commit") [] 0 (omega arith) in omega arith
kind_length Trm small = let h = word_more (codes "terminate") [] 0 (omega arith) in omega arith

after_length : (ns : List ℕ) → All (λ n. n < 2 ^ 32) ns → length (spaced (after_places ns)) ≤ 6 + 11 * length ns
after_length [] are = omega arith
after_length (n ∷ ns) are = word_more (codes "after") (number_places (n ∷ ns)) (11 * length (n ∷ ns)) (numbers_length (n ∷ ns) are)

node_length : (n : ℕ) (v : Vertex) → n < 2 ^ 32 → IsWordNode v → length (line_text (node_places n v)) ≤ 50 + 11 * edges_at v
node_length n v index small =
    let kind = kind_length v.kind small.kind in
    let sources = numbers_length v.sources small.sources in
    let antes = after_length v.antes small.antes in
    let rest = number_places v.sources ++ after_places v.antes in
    let words : length (spaced (kind_places v.kind ++ rest)) ≤ 34 + 11 * edges_at v = omega (arith, places_more (kind_places v.kind) rest, places_more (number_places v.sources) (after_places v.antes)) in
    let line = line_length (codes "node") (Number n ∷ (kind_places v.kind ++ rest)) (11 + (34 + 11 * edges_at v)) (number_more n (kind_places v.kind ++ rest) (34 + 11 * edges_at v) index words) in
    omega arith

return_length : (ret : Ret) → IsWordRet ret → length (line_text (return_places ret)) ≤ 29
return_length ret (unit, buf) = line_length (codes "return") (Number ret.unit ∷ Number ret.buf ∷ []) 22 (number_more ret.unit (Number ret.buf ∷ []) 11 unit (number_more ret.buf [] 0 buf (omega arith)))

buffers_length : (n : ℕ) (bufs : List Buf) → n + length bufs ≤ 2048 → All IsWordBuf bufs → length (lines_text (buffer_lines n bufs)) ≤ 84 * length bufs
unfolding buffer_lines
buffers_length n [] few are = omega arith
buffers_length n (buf ∷ bufs) few are =
    let one = buffer_length n buf (omega arith) (All-head IsWordBuf buf bufs are) in
    let others = buffers_length (n + 1) bufs (omega arith) (All-tail IsWordBuf buf bufs are) in
    omega (arith, length-append (line_text (buffer_places n buf)) (lines_text (buffer_lines (n + 1) bufs)))

nodes_length : (n : ℕ) (nodes : List Vertex) → n + length nodes ≤ 2048 → All IsWordNode nodes → length (lines_text (node_lines n nodes)) ≤ 50 * length nodes + 11 * sum_by edges_at nodes
unfolding node_lines
nodes_length n [] few are = omega arith
nodes_length n (v ∷ nodes) few are =
    let one = node_length n v (omega arith) (All-head IsWordNode v nodes are) in
    let others = nodes_length (n + 1) nodes (omega arith) (All-tail IsWordNode v nodes are) in
    omega (arith, length-append (line_text (node_places n v)) (lines_text (node_lines (n + 1) nodes)), sum_by-cons edges_at v nodes)

returns_length : (rets : List Ret) → All IsWordRet rets → length (lines_text (return_lines rets)) ≤ 29 * length rets
returns_length [] are = omega arith
returns_length (ret ∷ rets) are =
    let one = return_length ret (All-head IsWordRet ret rets are) in
    let others = returns_length rets (All-tail IsWordRet ret rets are) in
    omega (arith, length-append (line_text (return_places ret)) (lines_text (return_lines rets)))

end_length : length (line_text end_places) ≤ 4
end_length = line_length (codes "end") [] 0 (omega arith)

-- ---- a graph

sum_of : (a b c d e : Text) → length (a ++ (b ++ (c ++ (d ++ e)))) ≡ length a + (length b + (length c + (length d + length e)))
sum_of a b c d e = omega (arith, length-append a (b ++ (c ++ (d ++ e))), length-append b (c ++ (d ++ e)), length-append c (d ++ e), length-append d e)

pub text_short : (g : Named) → is_name g.name ≡ true → IsWritable g.graph → length (graph_text g) ≤ 16777216
text_short g named w =
    let v = g.graph in
    let l = w.limits in
    let few_bufs = l.bufs in
    let few_nodes = l.nodes in
    let few_rets = l.rets in
    let few_edges = l.edges in
    let a = start_length g.name named in
    let b = buffers_length 0 v.bufs (omega arith) w.bufs in
    let c = nodes_length 0 v.nodes (omega arith) w.nodes in
    let d = returns_length v.rets w.rets in
    let e = end_length in
    let total = sum_of (line_text (start_places g.name)) (lines_text (buffer_lines 0 v.bufs)) (lines_text (node_lines 0 v.nodes)) (lines_text (return_lines v.rets)) (line_text end_places) in
    let is = ap length (graph_is g.name v) in
    omega (arith, total, is)
