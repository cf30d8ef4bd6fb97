-- That the scripts that are read are those of the form.
use Rattle.std.proofs.Common.{◌≡◌, ◌∙◌, ℕ, ◌+◌, ◌<◌, ◌≤◌, Bool, true, false, cond, List, [], ◌∷◌, ◌++◌, length, Option, Some, None, Result, Ok, Err, refl, sym, ap, subst, arith}
use Rattle.std.specs.Prelude.{◌&&◌, nat_le, nat_lt, codes, sum_by}
use Rattle.std.specs.Option.{ForSome}
use Rattle.std.specs.Str.{bytes_eq}
use Rattle.std.proofs.lemmas.Bool.{and_parts, leb-true, ltb-true}
use Rattle.std.proofs.lemmas.List.Elements.{All-cons, All-nil}
use Rattle.std.proofs.lemmas.List.Sums.{sum_by-cons}
use Rattle.raid_text.specs.Text.{Text, Numbered, is_sound, lines_in, sound_words, words_of}
use Rattle.text_steps.specs.Steps.{at_end, next_number, next_word, only_if, at_line}
use Rattle.graph_text.specs.Format.{Named}
use Rattle.graph_text.proofs.CanonicalSteps.{bind_ok, bytes_same, ok_same, only_ok, words_are}
use Rattle.raid_script.specs.Asked.{Asked, Writes, WritesAll, Reads, Syncs, Fails, IsAsked, IsPatch, Request, read_sectors, scripted}
use Rattle.raid_script.specs.Format.{Halves, all_patches_of, are_apart, halves_of, item_of, join_of, line_of, next_client, next_column, next_graph, next_of, next_patch, next_pattern, next_span, requests_behind, run_of}
use Rattle.raid_script.specs.Steps.{asked_of, fail_of, plain_of, read_of, request_of, requests_of, sync_of, use_of, write_of, writes_of, joined_in, script_in}
use Rattle.raid_script.specs.Form.{Place, Literal, Number, Digits, Graph, AreLinesOf, FillsAll, IsLineOf, IsRequest, IsSaid, asked_places, patch_places, places, said_places, use_places}
use Rattle.raid_script.specs.Laws.{ScriptIsOfTheForm}
use Rattle.raid_script.proofs.PatchesApart.{test-apart}
use Rattle.raid_script.proofs.PatchesForm.{all_patches_fill, patch_fills}
use Rattle.raid_script.proofs.PlacesFilled.{append_fills, client_fills, column_fills, end_fills, graph_fills, number_fills, pattern_fills, span_fills}
use Rattle.raid_script.proofs.Same.{script_same}

-- ---- one line

none_known : (graphs : ℕ) → ForSome None (λ g. g < graphs)
none_known graphs g e = absurd (cc)

some_known : (graphs graph : ℕ) → graph < graphs → ForSome (Some graph) (λ g. g < graphs)
some_known graphs graph small g e = let same : graph ≡ g = cc in rw (← same) small

-- a write or a read that was read behind its kind, with the words that name its graph in front
record RunRead (book : List Named) (columns graphs : ℕ) (graph : Option ℕ) (kind : Text) (words : List Text) (asked : Asked) : Type 0 where
  is : IsAsked columns graphs asked
  fills : (front : List Text) → FillsAll book (use_places graph) front → FillsAll book (asked_places asked) (front ++ kind ∷ words)

write_fills : (book : List Named) (columns graphs : ℕ) (graph : Option ℕ) (words : List Text) (asked : Asked) → ForSome graph (λ g. g < graphs) → write_of graph words ≡ Ok asked → RunRead book columns graphs graph (codes "write") words asked
unfolding write_of
write_fills book columns graphs graph words asked known h =
    let span = bind_ok (next_span words) _ asked h in
    let bytes = bind_ok (next_pattern span.0.2) _ asked span.2 in
    let end = bind_ok (at_end bytes.0.1) _ asked bytes.2 in
    let read = span_fills book words span.0.0 span.0.1 span.0.2 span.1 in
    let behind = pattern_fills book span.0.2 bytes.0.0 bytes.0.1 bytes.1 [] (end_fills book bytes.0.1 end.0 end.1) in
    let run = Literal (codes "write") ∷ Number span.0.0 ∷ Number span.0.1 ∷ Digits bytes.0.0 ∷ [] in
    subst (λ (a : Asked). RunRead book columns graphs graph (codes "write") words a) (ok_same (Writes span.0.0 span.0.1 bytes.0.0 graph) asked end.2) (record {
      is = (read.small, read.some, known);
      fills = λ front named. append_fills book (use_places graph) run front (codes "write" ∷ words) named (refl, read.fills (Digits bytes.0.0 ∷ []) behind);
    })

writes_fills : (book : List Named) (columns graphs : ℕ) (graph : Option ℕ) (words : List Text) (asked : Asked) → ForSome graph (λ g. g < graphs) → writes_of graph words ≡ Ok asked → RunRead book columns graphs graph (codes "writes") words asked
unfolding writes_of
writes_fills book columns graphs graph words asked known h =
    let patches = bind_ok (all_patches_of words) _ asked h in
    let apart = bind_ok (only_if (are_apart patches.0) 9) _ asked patches.2 in
    let read = all_patches_fill book words patches.0 patches.1 in
    let run = Literal (codes "writes") ∷ patch_places patches.0 in
    subst (λ (a : Asked). RunRead book columns graphs graph (codes "writes") words a) (ok_same (WritesAll patches.0 graph) asked apart.2) (record {
      is = (record { some = read.some; few = read.few; each = read.each; apart = test-apart patches.0 (only_ok (are_apart patches.0) 9 apart.0 apart.1) }, known);
      fills = λ front named. append_fills book (use_places graph) run front (codes "writes" ∷ words) named (refl, read.fills);
    })

read_fills : (book : List Named) (columns graphs : ℕ) (graph : Option ℕ) (words : List Text) (asked : Asked) → ForSome graph (λ g. g < graphs) → read_of graph words ≡ Ok asked → RunRead book columns graphs graph (codes "read") words asked
unfolding read_of
read_fills book columns graphs graph words asked known h =
    let span = bind_ok (next_span words) _ asked h in
    let end = bind_ok (at_end span.0.2) _ asked span.2 in
    let read = span_fills book words span.0.0 span.0.1 span.0.2 span.1 in
    let run = Literal (codes "read") ∷ Number span.0.0 ∷ Number span.0.1 ∷ [] in
    subst (λ (a : Asked). RunRead book columns graphs graph (codes "read") words a) (ok_same (Reads span.0.0 span.0.1 graph) asked end.2) (record {
      is = (read.small, read.some, known);
      fills = λ front named. append_fills book (use_places graph) run front (codes "read" ∷ words) named (refl, read.fills [] (end_fills book span.0.2 end.0 end.1));
    })

run_fills : (book : List Named) (columns graphs : ℕ) (graph : Option ℕ) (kind : Text) (words : List Text) (asked : Asked) → ForSome graph (λ g. g < graphs) → run_of graph kind words ≡ Ok asked → RunRead book columns graphs graph kind words asked
unfolding run_of write_of writes_of read_of
run_fills book columns graphs graph kind words asked known h = writes (bytes_eq kind (codes "write")) refl h
  where
    reads : (b : Bool) → bytes_eq kind (codes "read") ≡ b → cond b (read_of graph words) (Err 1) ≡ Ok asked → RunRead book columns graphs graph kind words asked
    reads true e r = rw (bytes_same kind (codes "read") e) (read_fills book columns graphs graph words asked known r)
    reads false e r = absurd (cc)

    all : (b : Bool) → bytes_eq kind (codes "writes") ≡ b → cond b (writes_of graph words) (cond (bytes_eq kind (codes "read")) (read_of graph words) (Err 1)) ≡ Ok asked → RunRead book columns graphs graph kind words asked
    all true e r = rw (bytes_same kind (codes "writes") e) (writes_fills book columns graphs graph words asked known r)
    all false e r = reads (bytes_eq kind (codes "read")) refl r

    writes : (b : Bool) → bytes_eq kind (codes "write") ≡ b
        → cond b (write_of graph words) (cond (bytes_eq kind (codes "writes")) (writes_of graph words) (cond (bytes_eq kind (codes "read")) (read_of graph words) (Err 1))) ≡ Ok asked → RunRead book columns graphs graph kind words asked
    writes true e r = rw (bytes_same kind (codes "write") e) (write_fills book columns graphs graph words asked known r)
    writes false e r = all (bytes_eq kind (codes "writes")) refl r

-- what was read from an item's kind on
abbrev ItemRead : List Named → ℕ → Text → List Text → Asked → Type 0
ItemRead book columns kind words asked = IsAsked columns (length book) asked × FillsAll book (asked_places asked) (kind ∷ words)

sync_fills : (book : List Named) (columns : ℕ) (words : List Text) (asked : Asked) → sync_of words ≡ Ok asked → ItemRead book columns (codes "sync") words asked
unfolding sync_of
sync_fills book columns words asked h =
    let stripe = bind_ok (next_number words) _ asked h in
    let end = bind_ok (at_end stripe.0.1) _ asked stripe.2 in
    subst (λ (a : Asked). ItemRead book columns (codes "sync") words a) (ok_same (Syncs stripe.0.0) asked end.2)
    (tt, (refl, number_fills book words stripe.0.0 stripe.0.1 stripe.1 [] (end_fills book stripe.0.1 end.0 end.1)))

fail_fills : (book : List Named) (columns : ℕ) (words : List Text) (asked : Asked) → fail_of columns words ≡ Ok asked → ItemRead book columns (codes "fail") words asked
unfolding fail_of
fail_fills book columns words asked h =
    let column = bind_ok (next_column columns words) _ asked h in
    let end = bind_ok (at_end column.0.1) _ asked column.2 in
    let read = column_fills columns words column.0.0 column.0.1 column.1 in
    subst (λ (a : Asked). ItemRead book columns (codes "fail") words a) (ok_same (Fails column.0.0) asked end.2)
    (read.0, (refl, number_fills book words column.0.0 column.0.1 read.1 [] (end_fills book column.0.1 end.0 end.1)))

use_fills : (book : List Named) (columns : ℕ) (words : List Text) (asked : Asked) → use_of book words ≡ Ok asked → ItemRead book columns (codes "use") words asked
unfolding use_of
use_fills book columns words asked h =
    let graph = bind_ok (next_graph book words) _ asked h in
    let kind = bind_ok (next_word graph.0.1) _ asked graph.2 in
    let named = graph_fills book words graph.0.0 graph.0.1 graph.1 in
    let run = run_fills book columns (length book) (Some graph.0.0) kind.0.0 kind.0.1 asked (some_known (length book) graph.0.0 named.within) kind.2 in
    let all : words ≡ named.name ∷ kind.0.0 ∷ kind.0.1 = named.split ∙ ap (λ (ws : List Text). named.name ∷ ws) (words_are graph.0.1 kind.0.0 kind.0.1 kind.1) in
    rw all (run.is, run.fills (codes "use" ∷ named.name ∷ []) (refl, (named.named, tt)))

item_fills : (book : List Named) (columns : ℕ) (kind : Text) (words : List Text) (asked : Asked) → item_of book columns kind words ≡ Ok asked → ItemRead book columns kind words asked
unfolding item_of sync_of fail_of use_of
item_fills book columns kind words asked h = syncs (bytes_eq kind (codes "sync")) refl h
  where
    runs : run_of None kind words ≡ Ok asked → ItemRead book columns kind words asked
    runs r = let run = run_fills book columns (length book) None kind words asked (none_known (length book)) r in (run.is, run.fills [] tt)

    uses : (b : Bool) → bytes_eq kind (codes "use") ≡ b → cond b (use_of book words) (run_of None kind words) ≡ Ok asked → ItemRead book columns kind words asked
    uses true e r = rw (bytes_same kind (codes "use") e) (use_fills book columns words asked r)
    uses false e r = runs r

    fails : (b : Bool) → bytes_eq kind (codes "fail") ≡ b → cond b (fail_of columns words) (cond (bytes_eq kind (codes "use")) (use_of book words) (run_of None kind words)) ≡ Ok asked → ItemRead book columns kind words asked
    fails true e r = rw (bytes_same kind (codes "fail") e) (fail_fills book columns words asked r)
    fails false e r = uses (bytes_eq kind (codes "use")) refl r

    syncs : (b : Bool) → bytes_eq kind (codes "sync") ≡ b → cond b (sync_of words) (cond (bytes_eq kind (codes "fail")) (fail_of columns words) (cond (bytes_eq kind (codes "use")) (use_of book words) (run_of None kind words))) ≡ Ok asked → ItemRead book columns kind words asked
    syncs true e r = rw (bytes_same kind (codes "sync") e) (sync_fills book columns words asked r)
    syncs false e r = fails (bytes_eq kind (codes "fail")) refl r

-- words that fill places, by their first and those behind it
split_fills : (book : List Named) (ps : List Place) (words : List Text) (word : Text) (behind : List Text) → words ≡ word ∷ behind → FillsAll book ps (word ∷ behind) → FillsAll book ps words
split_fills book ps words word behind is fills = subst (λ (ws : List Text). FillsAll book ps ws) (sym is) fills

-- ---- a join line

-- the places behind `join`
abbrev half_places : Halves → List Place
half_places h =
    Graph h.first ∷ Number h.one.span.first ∷ Number h.one.span.count ∷ Digits h.one.bytes
    ∷ Graph h.second ∷ Number h.other.span.first ∷ Number h.other.span.count ∷ Digits h.other.bytes ∷ []

-- the halves that were read
record HalvesRead (book : List Named) (words : List Text) (h : Halves) : Type 0 where
  one : IsPatch h.one
  other : IsPatch h.other
  first : h.first < length book
  second : h.second < length book
  fills : FillsAll book (half_places h) words

halves_fill : (book : List Named) (words : List Text) (h : Halves) → halves_of book words ≡ Ok h → HalvesRead book words h
unfolding halves_of
halves_fill book words h e =
    let first = bind_ok (next_graph book words) _ h e in
    let one = bind_ok (next_patch first.0.1) _ h first.2 in
    let second = bind_ok (next_graph book one.0.1) _ h one.2 in
    let other = bind_ok (next_patch second.0.1) _ h second.2 in
    let end = bind_ok (at_end other.0.1) _ h other.2 in
    let name = graph_fills book words first.0.0 first.0.1 first.1 in
    let written = patch_fills book first.0.1 one.0.0 one.0.1 one.1 in
    let next = graph_fills book one.0.1 second.0.0 second.0.1 second.1 in
    let too = patch_fills book second.0.1 other.0.0 other.0.1 other.1 in
    let found : Halves = record { first = first.0.0; one = one.0.0; second = second.0.0; other = other.0.0 } in
    let last : FillsAll book (Number other.0.0.span.first ∷ Number other.0.0.span.count ∷ Digits other.0.0.bytes ∷ []) second.0.1 = too.fills [] (end_fills book other.0.1 end.0 end.1) in
    let half : FillsAll book (Graph second.0.0 ∷ Number other.0.0.span.first ∷ Number other.0.0.span.count ∷ Digits other.0.0.bytes ∷ []) one.0.1 = split_fills book (Graph second.0.0 ∷ Number other.0.0.span.first ∷ Number other.0.0.span.count ∷ Digits other.0.0.bytes ∷ []) one.0.1 next.name second.0.1 next.split (next.named, last) in
    subst (λ (x : Halves). HalvesRead book words x) (ok_same found h end.2) (record {
      one = written.is;
      other = too.is;
      first = name.within;
      second = next.within;
      fills = split_fills book (half_places found) words name.name first.0.1 name.split (name.named, written.fills (Graph second.0.0 ∷ Number other.0.0.span.first ∷ Number other.0.0.span.count ∷ Digits other.0.0.bytes ∷ []) half);
    })

-- ---- one line

-- what was read of a client from an item's kind on
record AskedRead (book : List Named) (columns j line client : ℕ) (words : List Text) (r : Request) : Type 0 where
  client_is : r.client ≡ client
  is : IsSaid columns (length book) j line r.asked r.joined
  fills : FillsAll book (said_places r.asked r.joined) words

plain_fills : (book : List Named) (columns j line client : ℕ) (kind : Text) (words : List Text) (r : Request) → plain_of book columns client kind words ≡ Ok r → AskedRead book columns j line client (kind ∷ words) r
unfolding plain_of
plain_fills book columns j line client kind words r h =
    let asked = bind_ok (item_of book columns kind words) _ r h in
    let item = item_fills book columns kind words asked.0 asked.1 in
    subst (λ (q : Request). AskedRead book columns j line client (kind ∷ words) q) (ok_same _ r asked.2) (record { client_is = refl; is = item.0; fills = item.1 })

join_fills : (book : List Named) (columns j line client : ℕ) (words : List Text) (r : Request) → join_of book j line client words ≡ Ok r → AskedRead book columns j line client (codes "join" ∷ words) r
unfolding join_of
join_fills book columns j line client words r h =
    let halves = bind_ok (halves_of book words) _ r h in
    let apart = bind_ok (only_if (are_apart (halves.0.one ∷ halves.0.other ∷ [])) 9) _ r halves.2 in
    let few = bind_ok (only_if (nat_lt j 64) 13) _ r apart.2 in
    let read = halves_fill book words halves.0 halves.1 in
    let both = halves.0.one ∷ halves.0.other ∷ [] in
    subst (λ (q : Request). AskedRead book columns j line client (codes "join" ∷ words) q) (ok_same _ r few.2) (record {
      client_is = refl;
      is = record {
        one = halves.0.one;
        other = halves.0.other;
        is = refl;
        are = record {
          some = omega arith;
          few = omega arith;
          each = All-cons IsPatch halves.0.one (halves.0.other ∷ []) read.one (All-cons IsPatch halves.0.other [] read.other (All-nil IsPatch));
          apart = test-apart both (only_ok (are_apart both) 9 apart.0 apart.1);
        };
        of = record { first = read.first; second = read.second };
        line_is = refl;
        few = ltb-true j 64 (only_ok (nat_lt j 64) 13 few.0 few.1);
      };
      fills = (refl, read.fills);
    })

asked_fills : (book : List Named) (columns j line client : ℕ) (kind : Text) (words : List Text) (r : Request) → asked_of book columns j line client kind words ≡ Ok r → AskedRead book columns j line client (kind ∷ words) r
unfolding asked_of
asked_fills book columns j line client kind words r h = go (bytes_eq kind (codes "join")) refl h
  where
    go : (b : Bool) → bytes_eq kind (codes "join") ≡ b → cond b (join_of book j line client words) (plain_of book columns client kind words) ≡ Ok r → AskedRead book columns j line client (kind ∷ words) r
    go true e s = rw (bytes_same kind (codes "join") e) (join_fills book columns j line client words r s)
    go false e s = plain_fills book columns j line client kind words r s

request_fills : (book : List Named) (columns j line : ℕ) (words : List Text) (r : Request) → request_of book columns j line words ≡ Ok r → IsRequest columns (length book) j line r × FillsAll book (places r) words
unfolding request_of
request_fills book columns j line words r h =
    let client = bind_ok (next_client words) _ r h in
    let kind = bind_ok (next_word client.0.1) _ r client.2 in
    let known = client_fills words client.0.0 client.0.1 client.1 in
    let asked = asked_fills book columns j line client.0.0 kind.0.0 kind.0.1 r kind.2 in
    let behind : FillsAll book (said_places r.asked r.joined) client.0.1 = split_fills book (said_places r.asked r.joined) client.0.1 kind.0.0 kind.0.1 (words_are client.0.1 kind.0.0 kind.0.1 kind.1) asked.fills in
    let numbered : FillsAll book (Number client.0.0 ∷ said_places r.asked r.joined) words = number_fills book words client.0.0 client.0.1 known.1 (said_places r.asked r.joined) behind in
    ((rw asked.client_is known.0, asked.is), subst (λ (c : ℕ). FillsAll book (Number c ∷ said_places r.asked r.joined) words) (sym asked.client_is) numbered)

line_fills : (book : List Named) (columns j : ℕ) (line : Numbered) (r : Request) → line_of book columns j line ≡ Ok r → IsRequest columns (length book) j line.at r × IsLineOf book (places r) line
unfolding line_of request_of asked_of plain_of sound_words
line_fills book columns j line r h =
    let sound = bind_ok (only_if (is_sound line.body) 1) _ r h in
    let fills = request_fills book columns j line.at (words_of line.body) r sound.2 in
    (fills.0, (words_of line.body, rw (only_ok (is_sound line.body) 1 sound.0 sound.1) refl, fills.1))

-- ---- all lines

-- the item of a line, within the limits
record NextRead (book : List Named) (columns n r j : ℕ) (line : Numbered) (request : Request) : Type 0 where
  is : IsRequest columns (length book) j line.at request
  few : n < 65536
  sectors : r + read_sectors request.asked ≤ 262144
  form : IsLineOf book (places request) line

next_fills : (book : List Named) (columns n r j : ℕ) (line : Numbered) (request : Request) → next_of book columns n r j line ≡ Ok request → NextRead book columns n r j line request
unfolding next_of
next_fills book columns n r j line request h =
    let q = bind_ok (line_of book columns j line) _ request h in
    let t = bind_ok (only_if (nat_lt n 65536 && nat_le (r + read_sectors q.0.asked) 262144) 7) _ request q.2 in
    let both = and_parts (nat_lt n 65536) (nat_le (r + read_sectors q.0.asked) 262144) (only_ok _ 7 t.0 t.1) in
    let fills = line_fills book columns j line q.0 q.1 in
    subst (λ (x : Request). NextRead book columns n r j line x) (ok_same q.0 request t.2) (record {
      is = fills.0;
      few = ltb-true n 65536 both.0;
      sectors = leb-true (r + read_sectors q.0.asked) 262144 both.1;
      form = fills.1;
    })

-- the items of lines, behind n items whose reads have r sectors, and j join lines
record LinesRead (book : List Named) (columns n r j : ℕ) (lines : List Numbered) (requests : List Request) : Type 0 where
  count : n ≤ 65536 → n + length requests ≤ 65536
  sectors : r ≤ 262144 → r + sum_by (λ q. read_sectors q.asked) requests ≤ 262144
  form : AreLinesOf book columns j requests lines

of_line : {A : Type 0} (n : ℕ) (read : Result A ℕ) (x : A) → at_line n read ≡ Ok x → read ≡ Ok x
of_line n (Ok y) x h = ap (λ z. Ok z) (ok_same y x h)
of_line n (Err code) x h = absurd (cc)

lines_fill : (book : List Named) (columns n r j : ℕ) (lines : List Numbered) (requests : List Request) → requests_behind book columns n r j lines ≡ Ok requests → LinesRead book columns n r j lines requests
unfolding requests_behind
lines_fill book columns n r j [] requests h =
    subst (λ (rs : List Request). LinesRead book columns n r j [] rs) (ok_same [] requests h) (record {
      count = λ most. omega arith;
      sectors = λ most. omega arith;
      form = tt;
    })
lines_fill book columns n r j (line ∷ lines) requests h =
    let q = bind_ok (at_line line.at (next_of book columns n r j line)) _ requests h in
    let joins = j + length (joined_in q.0.joined) in
    let more = bind_ok (requests_behind book columns (n + 1) (r + read_sectors q.0.asked) joins lines) _ requests q.2 in
    let one = next_fills book columns n r j line q.0 (of_line line.at (next_of book columns n r j line) q.0 q.1) in
    let others = lines_fill book columns (n + 1) (r + read_sectors q.0.asked) joins lines more.0 more.1 in
    let total = sum_by-cons (λ (x : Request). read_sectors x.asked) q.0 more.0 in
    subst (λ (rs : List Request). LinesRead book columns n r j (line ∷ lines) rs) (ok_same (q.0 ∷ more.0) requests more.2) (record {
      count = λ most. let f = others.count (let g = one.few in omega arith) in omega arith;
      sectors = λ most. let s = others.sectors one.sectors in omega (arith, total);
      form = (one.is, one.form, others.form);
    })

pub script_of_form : ScriptIsOfTheForm
script_of_form book columns text script h =
    let all : script_in book columns text ≡ Ok script = sym (script_same book columns text) ∙ h in
    let read = bind_ok (requests_of book columns text) _ script all in
    let lines = lines_fill book columns 0 0 0 (lines_in text) read.0 read.1 in (
      read.0,
      record {
        are = record { few = (let f = lines.count (omega arith) in omega arith); sectors = (let s = lines.sectors (omega arith) in omega arith) };
        form = lines.form;
        sorted = ok_same (scripted read.0) script read.2;
      },
    )
