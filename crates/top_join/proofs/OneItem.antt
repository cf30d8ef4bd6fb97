-- The item of a join line is the only one that names its graph.
use Rattle.std.proofs.Common.{◌≡◌, ◌∙◌, ◌⊎◌, inl, inr, ℕ, zero, suc, ◌+◌, ◌<◌, ◌≤◌, nat_lt, Bool, true, false, List, [], ◌∷◌, ◌++◌, length, map, refl, sym, ap, subst, arith, All, add-one, ne_eqb, eq-eqb, lt-ltb, le-ltb, length-append, append_assoc}
use Rattle.std.specs.Prelude.{Option, Some, None, nat_eq, slice_get, if◌then◌else◌}
use Rattle.std.proofs.lemmas.Bool.{cases_lt}
use Rattle.std.proofs.Math.Seq.{get_or-append_seam}
use Rattle.std.proofs.lemmas.Option.{slice_get-get_or}
use Rattle.std.proofs.lemmas.List.Elements.{All-cons, All-head, All-nil, All-tail}
use Rattle.blk_plain.specs.declared.op.Span.{Span}
use Rattle.raid_text.specs.Text.{Numbered, Text, lines_in}
use Rattle.graph_text.specs.Format.{Named}
use Rattle.raid_script.specs.declared.join.Join.{Join}
use Rattle.raid_script.specs.Asked.{Asked, AskedPatch, Writes, WritesAll, Reads, Syncs, Fails, Other, IsAsked, Request, Scripted, by_first, joins_of, scripted}
use Rattle.raid_script.specs.Steps.{asked_by, joined_in}
use Rattle.raid_script.specs.Form.{AreLinesOf, IsJoin, IsSaid}
use Rattle.raid_script.specs.Laws.{IsScriptOf}
use Rattle.raid_script.proofs.ByClient.{by_first_more, by_first_none}
use Rattle.top_join.specs.Joining.{spans_by}
use Rattle.top_join.specs.Steps.{spans_in_row, spans_in}
use Rattle.top_join.specs.Lines.{IsLineOfItem}
use Rattle.std.specs.Option.{option_or}

-- ## Which items name a graph

-- an item doesn't name it
abbrev NamesOther : ℕ → Request → Type 0
NamesOther n q = spans_by n q.asked ≡ None

other_number : (n g : ℕ) (patches : List AskedPatch) → (g ≡ n → ⊥) → spans_by n (WritesAll patches (Some g)) ≡ None
other_number n g patches h = rw (ne_eqb g n h) refl

same_number : (n : ℕ) (patches : List AskedPatch) → spans_by n (WritesAll patches (Some n)) ≡ Some (map (λ (p : AskedPatch). p.span) patches)
same_number n patches = rw (eq-eqb n n refl) refl

-- one by a graph of the file
plain_other : (columns graphs n : ℕ) (a : Asked) → graphs ≤ n → IsAsked columns graphs a → spans_by n a ≡ None
plain_other columns graphs n (Writes first count bytes graph) l is = refl
plain_other columns graphs n (WritesAll patches None) l is = refl
plain_other columns graphs n (WritesAll patches (Some g)) l is = other_number n g patches (λ e. let k : g < graphs = is.1 g refl in let u : ⊥ = omega (arith, l, k, e) in u)
plain_other columns graphs n (Reads first count graph) l is = refl
plain_other columns graphs n (Syncs stripe) l is = refl
plain_other columns graphs n (Fails column) l is = refl
plain_other columns graphs n Other l is = refl

-- one of another join line
join_other : (graphs j line n : ℕ) (a : Asked) (join : Join) → (graphs + j ≡ n → ⊥) → IsJoin graphs j line a join → spans_by n a ≡ None
join_other graphs j line n a join h is = subst (λ (x : Asked). spans_by n x ≡ None) (sym is.is) (other_number n (graphs + j) (is.one ∷ is.other ∷ []) h)

-- one of a line in front of which j are join lines, or one of them
said_other : (columns graphs j line n : ℕ) (a : Asked) (joined : Option Join) → graphs ≤ n → (graphs + j + length (joined_in joined) ≤ n) ⊎ (n < graphs + j) → IsSaid columns graphs j line a joined → spans_by n a ≡ None
said_other columns graphs j line n a None l apart is = plain_other columns graphs n a l is
said_other columns graphs j line n a (Some join) l (inl behind) is = join_other graphs j line n a join (λ e. let u : ⊥ = omega (arith, behind, e) in u) is
said_other columns graphs j line n a (Some join) l (inr before) is = join_other graphs j line n a join (λ e. let u : ⊥ = omega (arith, before, e) in u) is

module _ (book : List Named) (columns : ℕ) where
  -- none of the items behind so many join lines, where the graph is of a line before
  later_other : (j n : ℕ) (qs : List Request) (lines : List Numbered) → AreLinesOf book columns j qs lines → length book ≤ n → n < length book + j → All (NamesOther n) qs
  later_other j n [] lines are l h = All-nil _
  later_other j n (q ∷ qs) [] are l h = absurd are
  later_other j n (q ∷ qs) (line ∷ lines) are l h =
      All-cons (NamesOther n) q qs (said_other columns (length book) j line.at n q.asked q.joined l (inr h) are.0.1)
      (later_other (j + length (joined_in q.joined)) n qs lines are.2 l (omega (arith, h)))

  -- The lines from some item on, and none of those in front names a graph of theirs.
  record Cut (j : ℕ) (front rest : List Request) : Type 0 where
    lines : List Numbered
    are : AreLinesOf book columns (j + length (joins_of front)) rest lines
    others : (n : ℕ) → length book + (j + length (joins_of front)) ≤ n → All (NamesOther n) front

  cut : (j : ℕ) (front rest : List Request) (lines : List Numbered) → AreLinesOf book columns j (front ++ rest) lines → Cut j front rest
  unfolding joins_of
  cut j [] rest lines are = record {
    lines = lines;
    are = (let same : j + 0 ≡ j = omega arith in subst (λ (k : ℕ). AreLinesOf book columns k rest lines) (sym same) are);
    others = λ n h. All-nil _;
  }
  cut j (q ∷ front) rest [] are = absurd are
  cut j (q ∷ front) rest (line ∷ lines) are =
      let d : ℕ = length (joined_in q.joined) in
      let more = cut (j + d) front rest lines are.2 in
      let sum : length (joined_in q.joined ++ joins_of front) ≡ d + length (joins_of front) = length-append (joined_in q.joined) (joins_of front) in
      let same : j + d + length (joins_of front) ≡ j + length (joined_in q.joined ++ joins_of front) = omega (arith, sum) in
      record {
        lines = more.lines;
        are = subst (λ (k : ℕ). AreLinesOf book columns k rest more.lines) same more.are;
        others = λ n h.
            let past : length book + (j + length (joined_in q.joined ++ joins_of front)) ≤ n = h in
            All-cons (NamesOther n) q front (said_other columns (length book) j line.at n q.asked q.joined (omega (arith, past)) (inl (omega (arith, past, sum))) are.0.1)
            (more.others n (omega (arith, past, sum)));
      }

-- ## One client

-- an item that doesn't name it is passed over
passed : (n : ℕ) (a : Asked) (items : List Asked) → spans_by n a ≡ None → spans_in_row n (a ∷ items) ≡ spans_in_row n items
passed n a items is = ap (λ (x : Option (List Span)). option_or x (spans_in_row n items)) is

found : (n : ℕ) (a : Asked) (items : List Asked) (spans : List Span) → spans_by n a ≡ Some spans → spans_in_row n (a ∷ items) ≡ Some spans
found n a items spans is = ap (λ (x : Option (List Span)). option_or x (spans_in_row n items)) is

no_row : (n : ℕ) → spans_in_row n [] ≡ None
no_row n = refl

row_none : (n c : ℕ) (qs : List Request) → All (NamesOther n) qs → spans_in_row n (asked_by qs c) ≡ None
unfolding asked_by
row_none n c [] are = no_row n
row_none n c (q ∷ qs) are = go (nat_eq q.client c) refl (All-head (NamesOther n) q qs are) (row_none n c qs (All-tail (NamesOther n) q qs are))
  where
    go : (b : Bool) → nat_eq q.client c ≡ b → NamesOther n q → spans_in_row n (asked_by qs c) ≡ None → spans_in_row n (asked_by (q ∷ qs) c) ≡ None
    go true h is others = rw h (passed n q.asked (asked_by qs c) is ∙ others)
    go false h is others = rw h others

-- the spans, for the client of the item
abbrev if_so : List Span → Bool → Option (List Span)
if_so spans b = if b then Some spans else None

row_of : (n c : ℕ) (front back : List Request) (r : Request) (spans : List Span) → All (NamesOther n) front → All (NamesOther n) back → spans_by n r.asked ≡ Some spans
    → spans_in_row n (asked_by (front ++ r ∷ back) c) ≡ if_so spans (nat_eq r.client c)
unfolding asked_by
row_of n c [] back r spans f b is = go (nat_eq r.client c) refl
  where
    go : (t : Bool) → nat_eq r.client c ≡ t → spans_in_row n (asked_by (r ∷ back) c) ≡ if_so spans t
    go true h = rw h (found n r.asked (asked_by back c) spans is)
    go false h = rw h (row_none n c back b)
row_of n c (q ∷ front) back r spans f b is = step (nat_eq q.client c) refl (All-head (NamesOther n) q front f) (row_of n c front back r spans (All-tail (NamesOther n) q front f) b is)
  where
    step : (t : Bool) → nat_eq q.client c ≡ t → NamesOther n q → spans_in_row n (asked_by (front ++ r ∷ back) c) ≡ if_so spans (nat_eq r.client c)
        → spans_in_row n (asked_by (q ∷ (front ++ r ∷ back)) c) ≡ if_so spans (nat_eq r.client c)
    step true h other others = rw h (passed n q.asked (asked_by (front ++ r ∷ back) c) other ∙ others)
    step false h other others = rw h others

-- ## All clients

or_none : (a : Option (List Span)) → option_or a None ≡ a
or_none None = refl
or_none (Some x) = refl

or_assoc : (a b c : Option (List Span)) → option_or a (option_or b c) ≡ option_or (option_or a b) c
or_assoc None b c = refl
or_assoc (Some x) b c = refl

spans_append : (n : ℕ) (rows : List (List Asked)) (row : List Asked) → spans_in n (rows ++ row ∷ []) ≡ option_or (spans_in n rows) (spans_in_row n row)
spans_append n [] row = or_none (spans_in_row n row)
spans_append n (first ∷ rows) row =
    ap (λ (x : Option (List Span)). option_or (spans_in_row n first) x) (spans_append n rows row)
    ∙ or_assoc (spans_in_row n first) (spans_in n rows) (spans_in_row n row)

one_more : (client k : ℕ) (spans : List Span) → option_or (if_so spans (nat_lt client k)) (if_so spans (nat_eq client k)) ≡ if_so spans (nat_lt client (suc k))
one_more client k spans = elim (cases_lt client k) [
  | inl l ↦ rw (lt-ltb client k l) (rw (lt-ltb client (suc k) (omega (arith, l))) refl)
  | inr g ↦ elim (cases_lt k client) [
    | inl l ↦ rw (le-ltb client k g) (rw (ne_eqb client k (λ e. let u : ⊥ = omega (arith, l, e) in u)) (rw (le-ltb client (suc k) (omega (arith, l))) refl))
    | inr e ↦ rw (le-ltb client k g) (rw (eq-eqb client k (omega (arith, g, e))) (rw (lt-ltb client (suc k) (omega (arith, g, e))) refl))
  ]
]

spans_none : (n : ℕ) → spans_in n [] ≡ None
spans_none n = refl

all_of : (n k client : ℕ) (qs : List Request) (spans : List Span) → ((c : ℕ) → spans_in_row n (asked_by qs c) ≡ if_so spans (nat_eq client c))
    → spans_in n (by_first k qs) ≡ if_so spans (nat_lt client k)
all_of n zero client qs spans rows =
    ap (spans_in n) (by_first_none qs) ∙ (spans_none n ∙ sym (ap (if_so spans) (le-ltb client 0 (omega arith))))
all_of n (suc k) client qs spans rows =
    ap (λ (i : ℕ). spans_in n (by_first i qs)) (sym (add-one k))
    ∙ (ap (spans_in n) (by_first_more k qs)
    ∙ (spans_append n (by_first k qs) (asked_by qs k)
    ∙ (ap (λ (x : Option (List Span)). option_or x (spans_in_row n (asked_by qs k))) (all_of n k client qs spans rows)
    ∙ (ap (λ (x : Option (List Span)). option_or (if_so spans (nat_lt client k)) x) (rows k)
    ∙ one_more client k spans))))

-- ## The join line

joins_append : (xs ys : List Request) → joins_of (xs ++ ys) ≡ joins_of xs ++ joins_of ys
unfolding joins_of
joins_append [] ys = refl
joins_append (q ∷ qs) ys = ap (λ (js : List Join). joined_in q.joined ++ js) (joins_append qs ys) ∙ sym (append_assoc (joined_in q.joined) (joins_of qs) (joins_of ys))

joins_behind : (r : Request) (back : List Request) (join : Join) → r.joined ≡ Some join → joins_of (r ∷ back) ≡ join ∷ joins_of back
unfolding joins_of
joins_behind r back join is = ap (λ (j : Option Join). joined_in j ++ joins_of back) is

-- what stands behind others is there
seam : {A : Type 0} (xs ys : List A) (x : A) → slice_get (xs ++ x ∷ ys) (length xs) ≡ Some x
seam xs ys x =
    let sum : length (xs ++ x ∷ ys) ≡ length xs + length (x ∷ ys) = length-append xs (x ∷ ys) in
    slice_get-get_or (xs ++ x ∷ ys) (length xs) x (omega (arith, sum)) ∙ ap (λ y. Some y) (get_or-append_seam xs x ys x)

module _ (book : List Named) (columns : ℕ) (script : Scripted) (front back : List Request) (r : Request) (join : Join)
    (sorted : scripted (front ++ r ∷ back) ≡ script) (joined : r.joined ≡ Some join) where
  abbrev j : ℕ
  j = length (joins_of front)

  the_line : slice_get script.joins j ≡ Some join
  the_line =
      let all : joins_of (front ++ r ∷ back) ≡ joins_of front ++ join ∷ joins_of back =
      joins_append front (r ∷ back) ∙ ap (λ (js : List Join). joins_of front ++ js) (joins_behind r back join joined) in
      ap (λ (s : Scripted). slice_get s.joins j) (sym sorted)
      ∙ (ap (λ (js : List Join). slice_get js j) all ∙ seam (joins_of front) (joins_of back) join)

  the_spans : (spans : List Span) → r.client < 16 → All (NamesOther (length book + j)) front → All (NamesOther (length book + j)) back → spans_by (length book + j) r.asked ≡ Some spans
      → spans_in (length book + j) script.clients ≡ Some spans
  the_spans spans below f b is =
      ap (λ (s : Scripted). spans_in (length book + j) s.clients) (sym sorted)
      ∙ (all_of (length book + j) 16 r.client (front ++ r ∷ back) spans (λ c. row_of (length book + j) c front back r spans f b is)
      ∙ ap (if_so spans) (lt-ltb r.client 16 below))

  the_item : (line : ℕ) → r.client < 16 → IsJoin (length book) (0 + j) line r.asked join → All (NamesOther (length book + j)) front → All (NamesOther (length book + j)) back
      → IsLineOfItem book script r join j
  the_item line below is f b =
      let same : 0 + j ≡ j = omega arith in
      let asked : r.asked ≡ WritesAll (is.one ∷ is.other ∷ []) (Some (length book + j)) =
      is.is ∙ ap (λ (k : ℕ). WritesAll (is.one ∷ is.other ∷ []) (Some (length book + k))) same in
      record {
        one = is.one;
        other = is.other;
        asked = asked;
        are = is.are;
        line = the_line;
        spans = the_spans (is.one.span ∷ is.other.span ∷ []) below f b (ap (spans_by (length book + j)) asked ∙ same_number (length book + j) (is.one ∷ is.other ∷ []));
      }

  from_lines : (lines : List Numbered) → AreLinesOf book columns (0 + j) (r ∷ back) lines → All (NamesOther (length book + j)) front → IsLineOfItem book script r join j
  from_lines [] are f = absurd are
  from_lines (line ∷ lines) are f =
      let one : length (joined_in r.joined) ≡ 1 = ap (λ (x : Option Join). length (joined_in x)) joined in
      let is : IsJoin (length book) (0 + j) line.at r.asked join = subst (IsSaid columns (length book) (0 + j) line.at r.asked) joined are.0.1 in
      the_item line.at are.0.0 is f (later_other book columns (0 + j + length (joined_in r.joined)) (length book + j) back lines are.2 (omega arith) (omega (arith, one)))

pub line_has_its_item : (book : List Named) (columns : ℕ) (text : Text) (script : Scripted) (front back : List Request) (r : Request) (join : Join)
    → IsScriptOf book columns text script (front ++ r ∷ back) → r.joined ≡ Some join → IsLineOfItem book script r join (length (joins_of front))
line_has_its_item book columns text script front back r join is joined =
    let c = cut book columns 0 front (r ∷ back) (lines_in text) is.form in
    from_lines book columns script front back r join is.sorted joined c.lines c.are (c.others (length book + length (joins_of front)) (omega arith))
