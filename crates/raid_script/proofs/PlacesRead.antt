-- One step of reading a line whose words fill places, and the value that it gives.
use Rattle.std.proofs.Common.{◌≡◌, ℕ, ◌<◌, true, List, [], ◌∷◌, Ok, refl, arith}
use Rattle.std.specs.Prelude.{not, nat_eq, nat_lt}
use Rattle.std.proofs.lemmas.Bool.Decides.{nat_tests}
use Rattle.raid_text.specs.Text.{Text}
use Rattle.text_steps.specs.Steps.{at_end, next_number, next_word}
use Rattle.graph_text.specs.Format.{Named}
use Rattle.graph_text.proofs.CanonicalSteps.{is_number}
use Rattle.raid_script.specs.Format.{next_client, next_column, next_graph, next_pattern, next_span}
use Rattle.raid_script.specs.Steps.{graph_of}
use Rattle.raid_script.specs.Form.{Place, Number, Digits, Graph, Fills, FillsAll}

pub word_read : (book : List Named) (place : Place) (places : List Place) (words : List Text) → FillsAll book (place ∷ places) words
    → (word : Text) × (behind : List Text) × (words ≡ word ∷ behind) × Fills book place word × FillsAll book places behind
word_read book place places [] fills = absurd fills
word_read book place places (w ∷ ws) (fill, fills) = (w, ws, refl, fill, fills)

pub number_read : (book : List Named) (n : ℕ) (places : List Place) (words : List Text) → FillsAll book (Number n ∷ places) words → (behind : List Text) × (next_number words ≡ Ok (n, behind)) × FillsAll book places behind
unfolding next_number
number_read book n places [] fills = absurd fills
number_read book n places (w ∷ ws) (fill, fills) = (ws, rw (is_number w n fill) refl, fills)

pub end_read : (book : List Named) (words : List Text) → FillsAll book [] words → at_end words ≡ Ok tt
unfolding at_end
end_read book [] fills = refl
end_read book (w ∷ ws) fills = absurd fills

below : (n bound : ℕ) → n < bound → nat_lt n bound ≡ true
below n bound h = grind (arith, nat_tests)

some_test : (n : ℕ) → 0 < n → not (nat_eq n 0) ≡ true
some_test n h = grind (arith, nat_tests)

pub client_read : (book : List Named) (n : ℕ) (places : List Place) (words : List Text) → n < 16 → FillsAll book (Number n ∷ places) words → (behind : List Text) × (next_client words ≡ Ok (n, behind)) × FillsAll book places behind
unfolding next_client
client_read book n places words small fills =
    let s = number_read book n places words fills in
    (s.0, rw (s.1, below n 16 small) refl, s.2)

pub column_read : (book : List Named) (columns n : ℕ) (places : List Place) (words : List Text) → n < columns → FillsAll book (Number n ∷ places) words → (behind : List Text) × (next_column columns words ≡ Ok (n, behind)) × FillsAll book places behind
unfolding next_column
column_read book columns n places words small fills =
    let s = number_read book n places words fills in
    (s.0, rw (s.1, below n columns small) refl, s.2)

pub span_read : (book : List Named) (first count : ℕ) (places : List Place) (words : List Text) → 0 < count → FillsAll book (Number first ∷ Number count ∷ places) words
    → (behind : List Text) × (next_span words ≡ Ok (first, count, behind)) × FillsAll book places behind
unfolding next_span
span_read book first count places words some fills =
    let f = number_read book first (Number count ∷ places) words fills in
    let c = number_read book count places f.0 f.2 in
    (c.0, rw (f.1, c.1, some_test count some) refl, c.2)

pub pattern_read : (book : List Named) (bytes : List ℕ) (places : List Place) (words : List Text) → FillsAll book (Digits bytes ∷ places) words → (behind : List Text) × (next_pattern words ≡ Ok (bytes, behind)) × FillsAll book places behind
unfolding next_pattern next_word
pattern_read book bytes places [] fills = absurd fills
pattern_read book bytes places (w ∷ ws) (fill, fills) = (ws, rw fill refl, fills)

pub graph_read : (book : List Named) (graph : ℕ) (places : List Place) (words : List Text) → FillsAll book (Graph graph ∷ places) words → (behind : List Text) × (next_graph book words ≡ Ok (graph, behind)) × FillsAll book places behind
unfolding next_graph graph_of next_word
graph_read book graph places [] fills = absurd fills
graph_read book graph places (w ∷ ws) (fill, fills) = (ws, rw fill refl, fills)
