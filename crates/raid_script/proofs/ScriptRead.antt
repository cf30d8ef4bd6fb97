-- That each text of the form of a script is read as its items.
use Rattle.std.proofs.Common.{◌≡◌, ℕ, ◌+◌, ◌<◌, ◌≤◌, Bool, true, false, cond, List, [], ◌∷◌, length, Option, Some, None, Ok, refl, sym, subst, arith, ◌∙◌}
use Rattle.std.specs.Prelude.{◌&&◌, nat_le, nat_lt, codes, sum_by}
use Rattle.std.proofs.lemmas.Bool.Decides.{nat_tests}
use Rattle.std.proofs.lemmas.List.Elements.{All-head, All-tail}
use Rattle.std.proofs.lemmas.List.Sums.{sum_by-cons}
use Rattle.std.specs.Str.{bytes_eq}
use Rattle.graph_text.proofs.CanonicalSteps.{bytes_same}
use Rattle.raid_text.specs.Text.{Text, Numbered, is_sound, lines_in, sound_words, words_of}
use Rattle.text_steps.specs.Steps.{next_word}
use Rattle.graph_text.specs.Format.{Named}
use Rattle.raid_script.specs.declared.join.Join.{Join}
use Rattle.raid_script.specs.Asked.{Asked, AskedPatch, Writes, WritesAll, Reads, Syncs, Fails, Other, ArePatches, IsAsked, IsPatch, Request, read_sectors}
use Rattle.raid_script.specs.Format.{are_apart, halves_of, item_of, join_of, line_of, next_graph, next_of, next_patch, requests_behind, run_of}
use Rattle.raid_script.specs.Steps.{asked_of, fail_of, plain_of, read_of, request_of, sync_of, use_of, write_of, writes_of, joined_in, script_in}
use Rattle.raid_script.specs.Form.{Place, Literal, Number, Digits, Graph, AreLinesOf, FillsAll, IsJoin, IsLineOf, IsRequest, IsSaid, asked_places, join_places, patch_places, patches_in, places, said_places}
use Rattle.raid_script.specs.Laws.{ScriptIsRead}
use Rattle.raid_script.proofs.PatchesApart.{apart-test}
use Rattle.raid_script.proofs.PatchesRead.{patch_read, writes_read}
use Rattle.raid_script.proofs.PlacesRead.{client_read, column_read, end_read, graph_read, number_read, pattern_read, span_read, word_read}
use Rattle.raid_script.proofs.Same.{script_same}

write_read : (book : List Named) (graph : Option ℕ) (first count : ℕ) (bytes : List ℕ) (words : List Text) → 0 < count → FillsAll book (Number first ∷ Number count ∷ Digits bytes ∷ []) words → write_of graph words ≡ Ok (Writes first count bytes graph)
unfolding write_of
write_read book graph first count bytes words some fills =
    let span = span_read book first count (Digits bytes ∷ []) words some fills in
    let pattern = pattern_read book bytes [] span.0 span.2 in
    rw (span.1, pattern.1, end_read book pattern.0 pattern.2) refl

read_read : (book : List Named) (graph : Option ℕ) (first count : ℕ) (words : List Text) → 0 < count → FillsAll book (Number first ∷ Number count ∷ []) words → read_of graph words ≡ Ok (Reads first count graph)
unfolding read_of
read_read book graph first count words some fills =
    let span = span_read book first count [] words some fills in
    rw (span.1, end_read book span.0 span.2) refl

sync_read : (book : List Named) (stripe : ℕ) (words : List Text) → FillsAll book (Number stripe ∷ []) words → sync_of words ≡ Ok (Syncs stripe)
unfolding sync_of
sync_read book stripe words fills =
    let n = number_read book stripe [] words fills in
    rw (n.1, end_read book n.0 n.2) refl

fail_read : (book : List Named) (columns column : ℕ) (words : List Text) → column < columns → FillsAll book (Number column ∷ []) words → fail_of columns words ≡ Ok (Fails column)
unfolding fail_of
fail_read book columns column words small fills =
    let n = column_read book columns column [] words small fills in
    rw (n.1, end_read book n.0 n.2) refl

-- an item's kind, and what stands behind it
abbrev ItemReads : List Named → ℕ → List Text → Asked → Type 0
ItemReads book columns words asked = (kind : Text) × (behind : List Text) × (words ≡ kind ∷ behind) × (item_of book columns kind behind ≡ Ok asked)

item_read : (book : List Named) (columns graphs : ℕ) (asked : Asked) (words : List Text) → IsAsked columns graphs asked → FillsAll book (asked_places asked) words → ItemReads book columns words asked
unfolding item_of use_of run_of write_of writes_of read_of sync_of fail_of next_word
item_read book columns graphs (Writes first count bytes None) words is fills =
    let kind = word_read book (Literal (codes "write")) (Number first ∷ Number count ∷ Digits bytes ∷ []) words fills in
    let named : kind.0 ≡ codes "write" = kind.3 in
    (kind.0, kind.1, kind.2, rw (named, write_read book None first count bytes kind.1 is.1 kind.4) refl)
item_read book columns graphs (WritesAll patches None) words is fills =
    let kind = word_read book (Literal (codes "writes")) (patch_places patches) words fills in
    let named : kind.0 ≡ codes "writes" = kind.3 in
    (kind.0, kind.1, kind.2, rw (named, writes_read book None patches kind.1 is.0 kind.4) refl)
item_read book columns graphs (Reads first count None) words is fills =
    let kind = word_read book (Literal (codes "read")) (Number first ∷ Number count ∷ []) words fills in
    let named : kind.0 ≡ codes "read" = kind.3 in
    (kind.0, kind.1, kind.2, rw (named, read_read book None first count kind.1 is.1 kind.4) refl)
item_read book columns graphs (Writes first count bytes (Some graph)) words is fills =
    let run = Literal (codes "write") ∷ Number first ∷ Number count ∷ Digits bytes ∷ [] in
    let word = word_read book (Literal (codes "use")) (Graph graph ∷ run) words fills in
    let named : word.0 ≡ codes "use" = word.3 in
    let g = graph_read book graph run word.1 word.4 in
    let kind = word_read book (Literal (codes "write")) (Number first ∷ Number count ∷ Digits bytes ∷ []) g.0 g.2 in
    let write : kind.0 ≡ codes "write" = kind.3 in
    (word.0, word.1, word.2, rw (named, g.1, kind.2, write, write_read book (Some graph) first count bytes kind.1 is.1 kind.4) refl)
item_read book columns graphs (WritesAll patches (Some graph)) words is fills =
    let run = Literal (codes "writes") ∷ patch_places patches in
    let word = word_read book (Literal (codes "use")) (Graph graph ∷ run) words fills in
    let named : word.0 ≡ codes "use" = word.3 in
    let g = graph_read book graph run word.1 word.4 in
    let kind = word_read book (Literal (codes "writes")) (patch_places patches) g.0 g.2 in
    let write : kind.0 ≡ codes "writes" = kind.3 in
    (word.0, word.1, word.2, rw (named, g.1, kind.2, write, writes_read book (Some graph) patches kind.1 is.0 kind.4) refl)
item_read book columns graphs (Reads first count (Some graph)) words is fills =
    let run = Literal (codes "read") ∷ Number first ∷ Number count ∷ [] in
    let word = word_read book (Literal (codes "use")) (Graph graph ∷ run) words fills in
    let named : word.0 ≡ codes "use" = word.3 in
    let g = graph_read book graph run word.1 word.4 in
    let kind = word_read book (Literal (codes "read")) (Number first ∷ Number count ∷ []) g.0 g.2 in
    let read : kind.0 ≡ codes "read" = kind.3 in
    (word.0, word.1, word.2, rw (named, g.1, kind.2, read, read_read book (Some graph) first count kind.1 is.1 kind.4) refl)
item_read book columns graphs (Syncs stripe) words is fills =
    let kind = word_read book (Literal (codes "sync")) (Number stripe ∷ []) words fills in
    let named : kind.0 ≡ codes "sync" = kind.3 in
    (kind.0, kind.1, kind.2, rw (named, sync_read book stripe kind.1 kind.4) refl)
item_read book columns graphs (Fails column) words is fills =
    let kind = word_read book (Literal (codes "fail")) (Number column ∷ []) words fills in
    let named : kind.0 ≡ codes "fail" = kind.3 in
    (kind.0, kind.1, kind.2, rw (named, fail_read book columns column kind.1 is kind.4) refl)
item_read book columns graphs Other words is fills = absurd is

-- such a kind isn't that of a join line
other_kind : (book : List Named) (columns : ℕ) (kind : Text) (words : List Text) (asked : Asked) → item_of book columns kind words ≡ Ok asked → bytes_eq kind (codes "join") ≡ false
unfolding item_of run_of write_of writes_of read_of sync_of fail_of use_of
other_kind book columns kind words asked h = go (bytes_eq kind (codes "join")) refl
  where
    go : (b : Bool) → bytes_eq kind (codes "join") ≡ b → bytes_eq kind (codes "join") ≡ false
    go false e = e
    go true e =
        let none : item_of book columns (codes "join") words ≡ Ok asked = subst (λ (k : Text). item_of book columns k words ≡ Ok asked) (bytes_same kind (codes "join") e) h in
        absurd (cc)

-- what stands behind the client, of a line whose words fill its places
record AskedReads (book : List Named) (columns j line client : ℕ) (words : List Text) (r : Request) : Type 0 where
  kind : Text
  behind : List Text
  split : words ≡ kind ∷ behind
  read : asked_of book columns j line client kind behind ≡ Ok r

plain_read : (book : List Named) (columns j line client : ℕ) (asked : Asked) (words : List Text) → IsAsked columns (length book) asked → FillsAll book (asked_places asked) words
    → AskedReads book columns j line client words (record { client = client; asked = asked; joined = None })
unfolding asked_of plain_of
plain_read book columns j line client asked words is fills =
    let item = item_read book columns (length book) asked words is fills in
    let other = other_kind book columns item.0 item.1 asked item.3 in
    record { kind = item.0; behind = item.1; split = item.2; read = rw (other, item.3) refl }

half_read : (book : List Named) (graph : ℕ) (patch : AskedPatch) (places : List Place) (words : List Text) → IsPatch patch
    → FillsAll book (Graph graph ∷ Number patch.span.first ∷ Number patch.span.count ∷ Digits patch.bytes ∷ places) words
    → (named : List Text) × (behind : List Text) × (next_graph book words ≡ Ok (graph, named)) × (next_patch named ≡ Ok (patch, behind)) × FillsAll book places behind
half_read book graph patch places words is fills =
    let g = graph_read book graph (Number patch.span.first ∷ Number patch.span.count ∷ Digits patch.bytes ∷ places) words fills in
    let p = patch_read book patch places g.0 is g.2 in
    (g.0, p.0, g.1, p.1, p.2)

two_read : (book : List Named) (columns j line client : ℕ) (one other : AskedPatch) (join : Join) (words : List Text) → ArePatches (one ∷ other ∷ []) → join.line ≡ line → j < 64
    → FillsAll book (join_places join (one ∷ other ∷ [])) words
    → AskedReads book columns j line client words (record { client = client; asked = WritesAll (one ∷ other ∷ []) (Some (length book + j)); joined = Some join })
unfolding asked_of join_of halves_of
two_read book columns j line client one other join words are line_is few fills =
    let both = one ∷ other ∷ [] in
    let last = Graph join.second ∷ Number other.span.first ∷ Number other.span.count ∷ Digits other.bytes ∷ [] in
    let kind = word_read book (Literal (codes "join")) (Graph join.first ∷ Number one.span.first ∷ Number one.span.count ∷ Digits one.bytes ∷ last) words fills in
    let named : kind.0 ≡ codes "join" = kind.3 in
    let a = half_read book join.first one last kind.1 (All-head IsPatch one (other ∷ []) are.each) kind.4 in
    let b = half_read book join.second other [] a.1 (All-head IsPatch other [] (All-tail IsPatch one (other ∷ []) are.each)) a.4 in
    let apart : are_apart both ≡ true = apart-test both are.each are.apart in
    let room : nat_lt j 64 ≡ true = below-is j few in
    record {
      kind = kind.0;
      behind = kind.1;
      split = kind.2;
      read = rw (named, a.2, a.3, b.2, b.3, end_read book b.1 b.4, apart, room, ← line_is) refl;
    }
  where
    below-is : (n : ℕ) → n < 64 → nat_lt n 64 ≡ true
    below-is n h = grind (arith, nat_tests)

join_read : (book : List Named) (columns j line client : ℕ) (asked : Asked) (join : Join) (words : List Text) → IsJoin (length book) j line asked join → FillsAll book (join_places join (patches_in asked)) words
    → AskedReads book columns j line client words (record { client = client; asked = asked; joined = Some join })
join_read book columns j line client asked join words is fills =
    let both = is.one ∷ is.other ∷ [] in
    let filled : FillsAll book (join_places join both) words = subst (λ (a : Asked). FillsAll book (join_places join (patches_in a)) words) is.is fills in
    subst (λ (a : Asked). AskedReads book columns j line client words (record { client = client; asked = a; joined = Some join })) (sym is.is)
    (two_read book columns j line client is.one is.other join words is.are is.line_is is.few filled)

asked_read : (book : List Named) (columns j line client : ℕ) (asked : Asked) (joined : Option Join) (words : List Text) → IsSaid columns (length book) j line asked joined → FillsAll book (said_places asked joined) words
    → AskedReads book columns j line client words (record { client = client; asked = asked; joined = joined })
asked_read book columns j line client asked None words is fills = plain_read book columns j line client asked words is fills
asked_read book columns j line client asked (Some join) words is fills = join_read book columns j line client asked join words is fills

request_read : (book : List Named) (columns j line : ℕ) (r : Request) (words : List Text) → IsRequest columns (length book) j line r → FillsAll book (places r) words → request_of book columns j line words ≡ Ok r
unfolding request_of next_word
request_read book columns j line r words is fills =
    let client = client_read book r.client (said_places r.asked r.joined) words is.0 fills in
    let asked = asked_read book columns j line r.client r.asked r.joined client.0 is.1 client.2 in
    rw (client.1, asked.split, asked.read) refl

line_read : (book : List Named) (columns j : ℕ) (r : Request) (line : Numbered) → IsRequest columns (length book) j line.at r → IsLineOf book (places r) line → line_of book columns j line ≡ Ok r
unfolding line_of request_of asked_of plain_of sound_words
line_read book columns j r line is form = go (is_sound line.body) refl form.1
  where
    some_same : (p q : List Text) → ◌≡◌ {A = Option (List Text)} (Some p) (Some q) → p ≡ q
    some_same p q e = cc

    go : (b : Bool) → is_sound line.body ≡ b → ◌≡◌ {A = Option (List Text)} (cond b (Some (words_of line.body)) None) (Some form.0) → line_of book columns j line ≡ Ok r
    go true e s =
        let same : words_of line.body ≡ form.0 = some_same _ _ s in
        rw e (request_read book columns j line.at r (words_of line.body) is (rw same form.2))
    go false e s = absurd (cc)

within : (n r k : ℕ) → n < 65536 → r + k ≤ 262144 → (nat_lt n 65536 && nat_le (r + k) 262144) ≡ true
within n r k few bound = grind (arith, nat_tests)

lines_read : (book : List Named) (columns n r j : ℕ) (requests : List Request) (lines : List Numbered) → AreLinesOf book columns j requests lines → n + length requests ≤ 65536
    → r + sum_by (λ q. read_sectors q.asked) requests ≤ 262144 → requests_behind book columns n r j lines ≡ Ok requests
unfolding requests_behind next_of
lines_read book columns n r j [] [] are few bound = refl
lines_read book columns n r j [] (line ∷ lines) are few bound = absurd are
lines_read book columns n r j (q ∷ qs) [] are few bound = absurd are
lines_read book columns n r j (q ∷ qs) (line ∷ lines) (one, form, more) few bound =
    let read = line_read book columns j q line one form in
    let total = sum_by-cons (λ (x : Request). read_sectors x.asked) q qs in
    let fits : r + read_sectors q.asked ≤ 262144 = omega (arith, total) in
    let test = within n r (read_sectors q.asked) (omega arith) fits in
    let others = lines_read book columns (n + 1) (r + read_sectors q.asked) (j + length (joined_in q.joined)) qs lines more (omega arith) (omega (arith, total)) in
    rw (read, test, others) refl

pub script_read : ScriptIsRead
script_read book columns text script requests are =
    let read = lines_read book columns 0 0 0 requests (lines_in text) are.form (let f = are.are.few in omega arith) (let s = are.are.sectors in omega arith) in
    let all : script_in book columns text ≡ Ok script = rw (read, are.sorted) refl in
    script_same book columns text ∙ all
