-- That canonical texts are of the form, and so are read.
use Rattle.std.proofs.Common.{◌≡◌, ◌∙◌, ℕ, ◌+◌, ◌-◌, ◌*◌, ◌<◌, ◌≤◌, ◌^◌, true, List, [], ◌∷◌, ◌++◌, Option, Some, None, length, refl, sym, ap, subst, arith, rules, map, append-nil, All}
use Rattle.std.specs.Prelude.{◌&&◌, nat_le, nat_lt, decimal, IsTrue, flat_map}
use Rattle.std.specs.List.{list_all}
use Rattle.std.specs.Option.{ForSome}
use Rattle.std.specs.Str.{all_ascii_digits}
use Rattle.std.specs.Char.{is_ascii_digit}
use Rattle.std.proofs.lemmas.Bool.{and_from, and_parts}
use Rattle.std.proofs.lemmas.Bool.Decides.{nat_tests}
use Rattle.std.proofs.lemmas.Fmt.{decimal_nonempty, digits_decimal}
use Rattle.std.proofs.lemmas.Grind.{flat_map-append}
use Rattle.std.proofs.lemmas.List.Elements.{All-append, All-cons, All-head, All-nil, All-tail}
use Rattle.std.proofs.lemmas.Str.Parse.{IsNumeralModel, numerals_by_fold}
use Rattle.raid_text.specs.Text.{Text, Numbered, is_word, is_word_byte, lines_in, sound_words}
use Rattle.raid_text.specs.Printed.{IsLine}
use Rattle.raid_text.proofs.Again.{lines_again, numbers_again}
use Rattle.graph_mean.specs.declared.graph.Buf.{Buf}
use Rattle.graph_mean.specs.declared.graph.Ret.{Ret}
use Rattle.graph_mean.specs.declared.graph.Node.{Node}
use Rattle.graph_mean.specs.declared.graph.Node.TheVariants.{Rd, Wr, Xor, Cmt, Trm}
use Rattle.graph_mean.specs.Graph.{Vertex}
use Rattle.graph_text.specs.Format.{Named, is_name}
use Rattle.graph_text.specs.Steps.{is_name_byte}
use Rattle.graph_text.specs.FormatForm.{AreGraphs, FillsAll, HasForm, IsWordBuf, IsWordKind, IsWordNode, IsWordRet, IsWritable, Literal, Number, Place, after_places, body_lines, buffer_lines, buffer_places, canonical, end_places, file_lines, graph_lines, graph_text, kind_places, new_places, node_lines, node_places, number_places, printed, return_lines, return_places, start_places}
use Rattle.graph_text.specs.Printing.{line_text, lines_text}
use Rattle.graph_text.specs.Canonical.{FileTextIsRead, GraphTextIsRead, file_text}
use Rattle.graph_text.proofs.PrintedLines.{canonical_is}
use Rattle.graph_text.proofs.CanonicalRead.{file_read}
use Rattle.graph_text.proofs.ShortTexts.{text_short}

-- ---- any form

-- words and numbers that can be printed
abbrev ArePlaces : List Place → Type 0
ArePlaces [] = Unit {0}
ArePlaces (Literal text ∷ places) = IsTrue (is_word text) × ArePlaces places
ArePlaces (Number n ∷ places) = (n < 2 ^ 32) × ArePlaces places

-- a line of such places
abbrev IsPlaced : List Place → Type 0
IsPlaced places = (0 < length places) × ArePlaces places

abbrev read_on : ℕ → List ℕ → ℕ
read_on n [] = n
read_on n (c ∷ cs) = read_on (10 * n + (c - 48)) cs

own : IsNumeralModel (λ ds. all_ascii_digits ds ≡ true) (read_on 0)
own = numerals_by_fold _ (search rules) read_on (search rules)

digit_in_word : (b : ℕ) → is_ascii_digit b ≡ true → is_word_byte b ≡ true
digit_in_word b h = grind (arith, nat_tests)

digits_in_word : (w : Text) → all_ascii_digits w ≡ true → list_all is_word_byte w ≡ true
digits_in_word [] h = refl
digits_in_word (b ∷ bs) h = let both = and_parts (is_ascii_digit b) (all_ascii_digits bs) h in and_from (is_word_byte b) (list_all is_word_byte bs) (digit_in_word b both.0) (digits_in_word bs both.1)

some_bytes : (w : Text) → 0 < length w → list_all is_word_byte w ≡ true → is_word w ≡ true
some_bytes w some are = and_from (nat_lt 0 (length w)) (list_all is_word_byte w) (positive (length w) some) are
  where
    positive : (n : ℕ) → 0 < n → nat_lt 0 n ≡ true
    positive n h = grind (arith, nat_tests)

number_word : (n : ℕ) → n < 2 ^ 32 → is_word (decimal n) ≡ true
number_word n small =
    let wide : n < 2 ^ 64 = omega arith in
    some_bytes (decimal n) (decimal_nonempty n wide) (digits_in_word (decimal n) (digits_decimal own n wide))

printed_words : (places : List Place) → ArePlaces places → list_all is_word (map printed places) ≡ true
printed_words [] are = refl
printed_words (Literal text ∷ places) (word, are) = and_from (is_word text) (list_all is_word (map printed places)) word (printed_words places are)
printed_words (Number n ∷ places) (small, are) = and_from (is_word (decimal n)) (list_all is_word (map printed places)) (number_word n small) (printed_words places are)

printed_fill : (places : List Place) → ArePlaces places → FillsAll places (map printed places)
printed_fill [] are = tt
printed_fill (Literal text ∷ places) (word, are) = (refl, printed_fill places are)
printed_fill (Number n ∷ places) (small, are) = (numbers_again n small, printed_fill places are)

printed_line : (places : List Place) → IsPlaced places → IsLine (map printed places)
printed_line [] (some, are) = absurd (omega arith)
printed_line (place ∷ places) (some, are) = (omega arith, printed_words (place ∷ places) are)

printed_lines : (form : List (List Place)) → All IsPlaced form → All IsLine (map (λ line. map printed line) form)
printed_lines [] are = All-nil IsLine
printed_lines (places ∷ form) are = All-cons IsLine (map printed places) (map (λ l. map printed l) form) (printed_line places (All-head IsPlaced places form are)) (printed_lines form (All-tail IsPlaced places form are))

-- lines that are read as the printed words are of the form
has_form : (form : List (List Place)) (lines : List Numbered) → All IsPlaced form → map sound_words lines ≡ map (λ words. Some words) (map (λ line. map printed line) form) → HasForm form lines
has_form [] [] are same = tt
has_form [] (line ∷ lines) are same = absurd (cc)
has_form (places ∷ form) [] are same = absurd (cc)
has_form (places ∷ form) (line ∷ lines) are same =
    let first : sound_words line ≡ Some (map printed places) = cc in
    let rest : map sound_words lines ≡ map (λ words. Some words) (map (λ l. map printed l) form) = cc in
    ((map printed places, first, printed_fill places (All-head IsPlaced places form are).1), has_form form lines (All-tail IsPlaced places form are) rest)

canonical_form : (form : List (List Place)) → All IsPlaced form → HasForm form (lines_in (canonical form))
canonical_form form are = has_form form (lines_in (canonical form)) are (lines_again (map (λ line. map printed line) form) (printed_lines form are))

-- ---- the lines of a graph

places_append : (front back : List Place) → ArePlaces front → ArePlaces back → ArePlaces (front ++ back)
places_append [] back a b = b
places_append (Literal text ∷ front) back (word, a) b = (word, places_append front back a b)
places_append (Number n ∷ front) back (small, a) b = (small, places_append front back a b)

numbers_placed : (ns : List ℕ) → All (λ n. n < 2 ^ 32) ns → ArePlaces (number_places ns)
numbers_placed [] are = tt
numbers_placed (n ∷ ns) are = (All-head (λ (m : ℕ). m < 2 ^ 32) n ns are, numbers_placed ns (All-tail (λ (m : ℕ). m < 2 ^ 32) n ns are))

antes_placed : (ns : List ℕ) → All (λ n. n < 2 ^ 32) ns → ArePlaces (after_places ns)
antes_placed [] are = tt
antes_placed (n ∷ ns) are = (refl, numbers_placed (n ∷ ns) are)

name_word : (name : Text) → is_name name ≡ true → is_word name ≡ true
unfolding is_name
name_word name h =
    let both = and_parts (nat_le 1 (length name) && nat_le (length name) 32) (list_all is_name_byte name) h in
    let long = and_parts (nat_le 1 (length name)) (nat_le (length name) 32) both.0 in
    and_from (nat_lt 0 (length name)) (list_all is_word_byte name) (positive (length name) long.0) (bytes name both.1)
  where
    positive : (n : ℕ) → nat_le 1 n ≡ true → nat_lt 0 n ≡ true
    positive n e = grind (arith, nat_tests)

    byte : (b : ℕ) → is_name_byte b ≡ true → is_word_byte b ≡ true
    byte b e = grind (arith, nat_tests)

    bytes : (w : Text) → list_all is_name_byte w ≡ true → list_all is_word_byte w ≡ true
    bytes [] e = refl
    bytes (b ∷ bs) e = let parts = and_parts (is_name_byte b) (list_all is_name_byte bs) e in and_from (is_word_byte b) (list_all is_word_byte bs) (byte b parts.0) (bytes bs parts.1)

start_placed : (name : Text) → is_name name ≡ true → IsPlaced (start_places name)
start_placed name h = (omega arith, (refl, (name_word name h, tt)))

buffer_placed : (n : ℕ) (buf : Buf) → n < 2 ^ 32 → IsWordBuf buf → IsPlaced (buffer_places n buf)
buffer_placed n buf index (stripe, from, count, unit) = (omega arith, (refl, (index, (refl, (stripe, (refl, (from, (refl, (count, new_placed buf.new_of unit)))))))))
  where
    new_placed : (o : Option ℕ) → ForSome o (λ u. u < 2 ^ 32) → ArePlaces (new_places o)
    new_placed None small = tt
    new_placed (Some u) small = (refl, (small u refl, tt))

kind_placed : (kind : Node) → IsWordKind kind → ArePlaces (kind_places kind)
kind_placed (Rd unit buf) (u, b) = (refl, (u, (b, tt)))
kind_placed (Wr unit buf) (u, b) = (refl, (u, (b, tt)))
kind_placed (Xor to) t = (refl, (t, tt))
kind_placed Cmt small = (refl, tt)
kind_placed Trm small = (refl, tt)

node_placed : (n : ℕ) (v : Vertex) → n < 2 ^ 32 → IsWordNode v → IsPlaced (node_places n v)
node_placed n v index small =
    let numbers = places_append (number_places v.sources) (after_places v.antes) (numbers_placed v.sources small.sources) (antes_placed v.antes small.antes) in
    (omega arith, (refl, (index, places_append (kind_places v.kind) (number_places v.sources ++ after_places v.antes) (kind_placed v.kind small.kind) numbers)))

return_placed : (ret : Ret) → IsWordRet ret → IsPlaced (return_places ret)
return_placed ret (unit, buf) = (omega arith, (refl, (unit, (buf, tt))))

buffers_placed : (n : ℕ) (bufs : List Buf) → n + length bufs ≤ 2048 → All IsWordBuf bufs → All IsPlaced (buffer_lines n bufs)
unfolding buffer_lines
buffers_placed n [] few are = All-nil IsPlaced
buffers_placed n (buf ∷ bufs) few are =
    All-cons IsPlaced (buffer_places n buf) (buffer_lines (n + 1) bufs) (buffer_placed n buf (omega arith) (All-head IsWordBuf buf bufs are)) (buffers_placed (n + 1) bufs (omega arith) (All-tail IsWordBuf buf bufs are))

nodes_placed : (n : ℕ) (nodes : List Vertex) → n + length nodes ≤ 2048 → All IsWordNode nodes → All IsPlaced (node_lines n nodes)
unfolding node_lines
nodes_placed n [] few are = All-nil IsPlaced
nodes_placed n (v ∷ nodes) few are =
    All-cons IsPlaced (node_places n v) (node_lines (n + 1) nodes) (node_placed n v (omega arith) (All-head IsWordNode v nodes are)) (nodes_placed (n + 1) nodes (omega arith) (All-tail IsWordNode v nodes are))

returns_placed : (rets : List Ret) → All IsWordRet rets → All IsPlaced (return_lines rets)
returns_placed [] are = All-nil IsPlaced
returns_placed (ret ∷ rets) are = All-cons IsPlaced (return_places ret) (return_lines rets) (return_placed ret (All-head IsWordRet ret rets are)) (returns_placed rets (All-tail IsWordRet ret rets are))

graph_placed : (g : Named) → is_name g.name ≡ true → IsWritable g.graph → All IsPlaced (graph_lines g)
unfolding graph_lines body_lines
graph_placed g named w =
    let bufs = buffer_lines 0 g.graph.bufs in
    let nodes = node_lines 0 g.graph.nodes in
    let rets = return_lines g.graph.rets in
    let last = end_places ∷ [] in
    let limits = w.limits in
    let few_bufs = limits.bufs in
    let few_nodes = limits.nodes in
    let end_placed = All-cons IsPlaced end_places [] (omega arith, (refl, tt)) (All-nil IsPlaced) in
    All-cons IsPlaced (start_places g.name) (bufs ++ (nodes ++ (rets ++ last))) (start_placed g.name named)
    (All-append IsPlaced bufs (nodes ++ (rets ++ last)) (buffers_placed 0 g.graph.bufs (omega arith) w.bufs)
    (All-append IsPlaced nodes (rets ++ last) (nodes_placed 0 g.graph.nodes (omega arith) w.nodes)
    (All-append IsPlaced rets last (returns_placed g.graph.rets w.rets) end_placed)))

-- ---- files

file_placed : (graphs : List Named) → All (λ g. IsTrue (is_name g.name)) graphs → All (λ g. IsWritable g.graph) graphs → All IsPlaced (file_lines graphs)
unfolding file_lines
file_placed [] named writable = All-nil IsPlaced
file_placed (g ∷ graphs) named writable =
    All-append IsPlaced (graph_lines g) (flat_map graph_lines graphs) (graph_placed g (All-head (λ (x : Named). IsTrue (is_name x.name)) g graphs named) (All-head (λ (x : Named). IsWritable x.graph) g graphs writable))
    (file_placed graphs (All-tail (λ (x : Named). IsTrue (is_name x.name)) g graphs named) (All-tail (λ (x : Named). IsWritable x.graph) g graphs writable))

-- the texts of graphs one behind the other are the text of all their lines
texts_are : (graphs : List Named) → file_text graphs ≡ canonical (file_lines graphs)
unfolding file_lines
texts_are graphs = go graphs ∙ sym (canonical_is (flat_map graph_lines graphs))
  where
    go : (gs : List Named) → file_text gs ≡ lines_text (flat_map graph_lines gs)
    go [] = refl
    go (g ∷ gs) =
        ap (λ (t : Text). t ++ file_text gs) (canonical_is (graph_lines g))
        ∙ ap (λ (t : Text). lines_text (graph_lines g) ++ t) (go gs)
        ∙ sym (flat_map-append line_text (graph_lines g) (flat_map graph_lines gs))

pub file_text_read : FileTextIsRead
file_text_read graphs are =
    let form = canonical_form (file_lines graphs) (file_placed graphs are.named are.writable) in
    file_read (file_text graphs) graphs are (subst (λ (t : Text). HasForm (file_lines graphs) (lines_in t)) (sym (texts_are graphs)) form)

one_graph : (g : Named) → IsTrue (is_name g.name) → IsWritable g.graph → AreGraphs (g ∷ [])
one_graph g named writable = record {
  few = omega arith;
  named = All-cons (λ (x : Named). IsTrue (is_name x.name)) g [] named (All-nil (λ (x : Named). IsTrue (is_name x.name)));
  differ = λ i j d e lt h same. absurd (omega arith);
  writable = All-cons (λ (x : Named). IsWritable x.graph) g [] writable (All-nil (λ (x : Named). IsWritable x.graph));
}

pub graph_text_read : GraphTextIsRead
graph_text_read g named writable = record {
  short = text_short g named writable;
  read = rw (sym (append-nil (graph_text g))) (file_text_read (g ∷ []) (one_graph g named writable));
}
