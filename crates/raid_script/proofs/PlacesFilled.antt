-- One step of reading a line that gives a value, and which places its words fill.
use Rattle.std.proofs.Common.{◌≡◌, ◌∙◌, ℕ, ◌<◌, ◌^◌, true, List, [], ◌∷◌, ◌++◌, Option, Some, None, Result, Ok, ap, length, arith}
use Rattle.std.specs.Prelude.{not, nat_eq, nat_lt, ok_or}
use Rattle.std.specs.Str.{bytes_eq}
use Rattle.std.proofs.lemmas.Bool.{ltb-true}
use Rattle.std.proofs.lemmas.Bool.Decides.{nat_tests}
use Rattle.std.proofs.lemmas.List.Quantifiers.{position-Some}
use Rattle.graph_mean.specs.Graph.{blank}
use Rattle.raid_text.specs.Text.{Text}
use Rattle.raid_text.specs.Pattern.{pattern_of}
use Rattle.text_steps.specs.Steps.{at_end, next_number, next_word, number_in, only_if}
use Rattle.graph_text.specs.Format.{Named}
use Rattle.graph_text.proofs.CanonicalSteps.{bind_ok, number_is, number_small, ok_pair, ok_same, only_ok, words_are}
use Rattle.raid_script.specs.Format.{next_client, next_column, next_graph, next_pattern, next_span}
use Rattle.raid_script.specs.Steps.{graph_of}
use Rattle.raid_script.specs.Form.{Place, Number, Digits, FillsAll}

pub or_ok : {A : Type 0} (o : Option A) (code : ℕ) (x : A) → ok_or o code ≡ Ok x → o ≡ Some x
or_ok None code x h = absurd (cc)
or_ok (Some y) code x h = ap (λ z. Some z) (ok_same y x h)

pub append_fills : (book : List Named) (ps qs : List Place) (ws vs : List Text) → FillsAll book ps ws → FillsAll book qs vs → FillsAll book (ps ++ qs) (ws ++ vs)
append_fills book [] qs [] vs one two = two
append_fills book [] qs (w ∷ ws) vs one two = absurd one
append_fills book (p ∷ ps) qs [] vs one two = absurd one
append_fills book (p ∷ ps) qs (w ∷ ws) vs (fill, fills) two = (fill, append_fills book ps qs ws vs fills two)

pub number_fills : (book : List Named) (words : List Text) (n : ℕ) (behind : List Text) → next_number words ≡ Ok (n, behind) → (places : List Place) → FillsAll book places behind → FillsAll book (Number n ∷ places) words
unfolding next_number
number_fills book [] n behind h places fills = absurd (cc)
number_fills book (w ∷ ws) n behind h places fills =
    let s = bind_ok (number_in w) _ (n, behind) h in
    let both = ok_pair s.0 n ws behind s.2 in
    (rw both.0 at (number_is w s.0 s.1), rw both.1 fills)

-- a number that was read is below 2^32
pub next_small : (words : List Text) (n : ℕ) (behind : List Text) → next_number words ≡ Ok (n, behind) → n < 2 ^ 32
unfolding next_number
next_small [] n behind h = absurd (cc)
next_small (w ∷ ws) n behind h =
    let s = bind_ok (number_in w) _ (n, behind) h in
    let both = ok_pair s.0 n ws behind s.2 in
    rw both.0 at (number_small w s.0 (number_is w s.0 s.1))

pub end_fills : (book : List Named) (words : List Text) (x : Unit {0}) → at_end words ≡ Ok x → FillsAll book [] words
unfolding at_end
end_fills book [] x h = tt
end_fills book (w ∷ ws) x h = absurd (cc)

-- a number below a bound, by the test that refuses others
under : (n bound code : ℕ) (x : Unit {0}) → only_if (nat_lt n bound) code ≡ Ok x → n < bound
under n bound code x h = ltb-true n bound (only_ok (nat_lt n bound) code x h)

pub client_fills : (words : List Text) (n : ℕ) (behind : List Text) → next_client words ≡ Ok (n, behind) → (n < 16) × (next_number words ≡ Ok (n, behind))
unfolding next_client
client_fills words n behind h =
    let c = bind_ok (next_number words) _ (n, behind) h in
    let k = bind_ok (only_if (nat_lt c.0.0 16) 3) _ (n, behind) c.2 in
    let is = ok_same c.0 (n, behind) k.2 in
    (rw (ap (λ (p : ℕ × List Text). p.0) is) at (under c.0.0 16 3 k.0 k.1), c.1 ∙ ap (λ (p : ℕ × List Text). Ok p) is)

pub column_fills : (columns : ℕ) (words : List Text) (n : ℕ) (behind : List Text) → next_column columns words ≡ Ok (n, behind) → (n < columns) × (next_number words ≡ Ok (n, behind))
unfolding next_column
column_fills columns words n behind h =
    let c = bind_ok (next_number words) _ (n, behind) h in
    let k = bind_ok (only_if (nat_lt c.0.0 columns) 5) _ (n, behind) c.2 in
    let is = ok_same c.0 (n, behind) k.2 in
    (rw (ap (λ (p : ℕ × List Text). p.0) is) at (under c.0.0 columns 5 k.0 k.1), c.1 ∙ ap (λ (p : ℕ × List Text). Ok p) is)

-- the span that was read, in front of words that fill places
pub record SpanRead (book : List Named) (words : List Text) (first count : ℕ) (behind : List Text) : Type 0 where
  pub small : first < 2 ^ 32
  pub some : 0 < count
  pub fills : (places : List Place) → FillsAll book places behind → FillsAll book (Number first ∷ Number count ∷ places) words

above_zero : (n : ℕ) → not (nat_eq n 0) ≡ true → 0 < n
above_zero n h = grind (arith, nat_tests)

pub span_fills : (book : List Named) (words : List Text) (first count : ℕ) (behind : List Text) → next_span words ≡ Ok (first, count, behind) → SpanRead book words first count behind
unfolding next_span
span_fills book words first count behind h =
    let f = bind_ok (next_number words) _ (first, count, behind) h in
    let c = bind_ok (next_number f.0.1) _ (first, count, behind) f.2 in
    let t = bind_ok (only_if (not (nat_eq c.0.0 0)) 2) _ (first, count, behind) c.2 in
    let is = triple_same f.0.0 first c.0.0 count c.0.1 behind t.2 in
    let one : next_number words ≡ Ok (first, f.0.1) = f.1 ∙ ap (λ (k : ℕ). Ok (k, f.0.1)) is.0 in
    let two : next_number f.0.1 ≡ Ok (count, c.0.1) = c.1 ∙ ap (λ (k : ℕ). Ok (k, c.0.1)) is.1 in
    record {
      small = next_small words first f.0.1 one;
      some = rw is.1 at (above_zero c.0.0 (only_ok (not (nat_eq c.0.0 0)) 2 t.0 t.1));
      fills = λ places fills. number_fills book words first f.0.1 one (Number count ∷ places) (number_fills book f.0.1 count c.0.1 two places (rw is.2 fills));
    }
  where
    triple_same : (a b c d : ℕ) (e f : List Text) → ◌≡◌ {A = Result (ℕ × ℕ × List Text) ℕ} (Ok (a, c, e)) (Ok (b, d, f)) → (a ≡ b) × (c ≡ d) × (e ≡ f)
    triple_same a b c d e f h =
        let all : ◌≡◌ {A = ℕ × ℕ × List Text} (a, c, e) (b, d, f) = ok_same _ _ h in
        (ap (λ (p : ℕ × ℕ × List Text). p.0) all, ap (λ (p : ℕ × ℕ × List Text). p.1) all, ap (λ (p : ℕ × ℕ × List Text). p.2) all)

pub pattern_fills : (book : List Named) (words : List Text) (bytes : List ℕ) (behind : List Text) → next_pattern words ≡ Ok (bytes, behind) → (places : List Place) → FillsAll book places behind → FillsAll book (Digits bytes ∷ places) words
unfolding next_pattern
pattern_fills book words bytes behind h places fills =
    let w = bind_ok (next_word words) _ (bytes, behind) h in
    let b = bind_ok (ok_or (pattern_of w.0.0) 4) _ (bytes, behind) w.2 in
    let both = ok_pair b.0 bytes w.0.1 behind b.2 in
    let is : pattern_of w.0.0 ≡ Some bytes = or_ok (pattern_of w.0.0) 4 b.0 b.1 ∙ ap (λ (x : List ℕ). Some x) both.0 in
    rw (words_are words w.0.0 w.0.1 w.1) (is, rw both.1 fills)

-- a name that was read: the word, and the graph that has it
pub record GraphRead (book : List Named) (words : List Text) (graph : ℕ) (behind : List Text) : Type 0 where
  pub name : Text
  pub split : words ≡ name ∷ behind
  pub named : graph_of book name ≡ Some graph
  pub within : graph < length book

-- the number of a graph is below their number
graph_within : (book : List Named) (name : Text) (graph : ℕ) → graph_of book name ≡ Some graph → graph < length book
unfolding graph_of
graph_within book name graph h = (position-Some (λ g. bytes_eq g.name name) book graph (record { name = []; graph = blank }) h).0

pub graph_fills : (book : List Named) (words : List Text) (graph : ℕ) (behind : List Text) → next_graph book words ≡ Ok (graph, behind) → GraphRead book words graph behind
unfolding next_graph graph_of
graph_fills book words graph behind h =
    let w = bind_ok (next_word words) _ (graph, behind) h in
    let g = bind_ok (ok_or (graph_of book w.0.0) 6) _ (graph, behind) w.2 in
    let both = ok_pair g.0 graph w.0.1 behind g.2 in
    let is : graph_of book w.0.0 ≡ Some graph = or_ok (graph_of book w.0.0) 6 g.0 g.1 ∙ ap (λ (x : ℕ). Some x) both.0 in
    record {
      name = w.0.0;
      split = words_are words w.0.0 w.0.1 w.1 ∙ ap (λ (ws : List Text). w.0.0 ∷ ws) both.1;
      named = is;
      within = graph_within book w.0.0 graph is;
    }
