-- Items by client: what each has, and how many all have.
use Rattle.std.proofs.Common.{◌≡◌, ◌≢◌, ◌∙◌, ℕ, zero, suc, ◌+◌, ◌<◌, ◌≤◌, ◌⊎◌, inl, inr, ⊎_elim, Bool, true, false, cond, List, [], ◌∷◌, ◌++◌, length, refl, sym, ap, subst, arith, All, add-one, zero-add}
use Rattle.std.specs.Prelude.{nat_eq, nat_le, sum_by, Option, Some, None}
use Rattle.std.specs.Option.{ForSome}
use Rattle.std.proofs.lemmas.Bool.{eqb-true, leb-false, leb-true}
use Rattle.std.proofs.lemmas.Bool.Decides.{nat_tests}
use Rattle.std.proofs.lemmas.List.Elements.{All-cons, All-head, All-nil, All-push, All-tail}
use Rattle.std.proofs.lemmas.List.FromFn.{length-map-range_with_len, map-range_with_len_more, sum_by-map-range_with_len_more}
use Rattle.std.proofs.lemmas.List.Sums.{sum_by-cons}
use Rattle.raid_text.specs.Text.{Numbered}
use Rattle.graph_text.specs.Format.{Named}
use Rattle.raid_script.specs.declared.join.Join.{Join}
use Rattle.raid_script.specs.Asked.{AreFew, Asked, Writes, WritesAll, Reads, Syncs, Fails, Other, IsAsked, IsJoinOf, IsScript, Request, by_first, joins_of, read_sectors, scripted}
use Rattle.raid_script.specs.Steps.{asked_by, joined_in}
use Rattle.raid_script.specs.Form.{AreLinesOf, AreRequests, IsJoin, IsSaid}

-- ---- all clients

pub by_first_more : (n : ℕ) (requests : List Request) → by_first (n + 1) requests ≡ by_first n requests ++ asked_by requests n ∷ []
unfolding by_first asked_by
by_first_more n requests = map-range_with_len_more (asked_by requests) 0 n n (omega arith)

pub by_first_none : (requests : List Request) → by_first 0 requests ≡ []
unfolding by_first
by_first_none requests = refl

-- ---- what each may ask for

-- an item beside so many graphs
abbrev Asks : ℕ → ℕ → Request → Type 0
Asks columns graphs q = IsAsked columns graphs q.asked

one_asked : (columns graphs client : ℕ) (qs : List Request) → All (Asks columns graphs) qs → All (IsAsked columns graphs) (asked_by qs client)
unfolding asked_by
one_asked columns graphs client [] are = All-nil _
one_asked columns graphs client (q ∷ qs) are =
    go (nat_eq q.client client) refl (All-head (Asks columns graphs) q qs are) (one_asked columns graphs client qs (All-tail (Asks columns graphs) q qs are))
  where
    go : (b : Bool) → nat_eq q.client client ≡ b → Asks columns graphs q → All (IsAsked columns graphs) (asked_by qs client) → All (IsAsked columns graphs) (asked_by (q ∷ qs) client)
    go true h is others = rw h (All-cons (IsAsked columns graphs) q.asked (asked_by qs client) is others)
    go false h is others = rw h others

first_asked : (columns graphs n : ℕ) (qs : List Request) → All (Asks columns graphs) qs → All (All (IsAsked columns graphs)) (by_first n qs)
first_asked columns graphs zero qs are = rw (by_first_none qs) (All-nil _)
first_asked columns graphs (suc n) qs are =
    let more = All-push (All (IsAsked columns graphs)) (by_first n qs) (asked_by qs n) (first_asked columns graphs n qs are) (one_asked columns graphs n qs are) in
    subst (λ (xs : List (List Asked)). All (All (IsAsked columns graphs)) xs) (sym (ap (λ (k : ℕ). by_first k qs) (sym (add-one n)) ∙ by_first_more n qs)) more

-- ---- of lines

known_more : (graph : Option ℕ) (g h : ℕ) → g ≤ h → ForSome graph (λ n. n < g) → ForSome graph (λ n. n < h)
known_more graph g h l known n e = let k = known n e in omega (arith, l, k)

-- beside more graphs the same may be asked
asked_more : (columns g h : ℕ) (a : Asked) → g ≤ h → IsAsked columns g a → IsAsked columns h a
asked_more columns g h (Writes first count bytes graph) l is = (is.0, is.1, known_more graph g h l is.2)
asked_more columns g h (WritesAll patches graph) l is = (is.0, known_more graph g h l is.1)
asked_more columns g h (Reads first count graph) l is = (is.0, is.1, known_more graph g h l is.2)
asked_more columns g h (Syncs stripe) l is = tt
asked_more columns g h (Fails column) l is = is
asked_more columns g h Other l is = is

-- the item of a join line names a graph that is joined
join_asked : (columns graphs j line total : ℕ) (asked : Asked) (join : Join) → j < total → IsJoin graphs j line asked join → IsAsked columns (graphs + total) asked
join_asked columns graphs j line total asked join below is =
    subst (λ (a : Asked). IsAsked columns (graphs + total) a) (sym is.is)
    (is.are, λ n e. (let same : graphs + j ≡ n = cc in omega (arith, same, below)))

lines_asked : (book : List Named) (columns j total : ℕ) (qs : List Request) (lines : List Numbered) → AreLinesOf book columns j qs lines → j + length (joins_of qs) ≤ total → All (Asks columns (length book + total)) qs
unfolding joins_of
lines_asked book columns j total [] lines are most = All-nil _
lines_asked book columns j total (q ∷ qs) [] are most = absurd are
lines_asked book columns j total (q ∷ qs) (line ∷ lines) are most = go q.joined are.0.1 are.2 most (λ k l m. lines_asked book columns k total qs lines l m)
  where
    go : (joined : Option Join) → IsSaid columns (length book) j line.at q.asked joined → AreLinesOf book columns (j + length (joined_in joined)) qs lines → j + length (joined_in joined ++ joins_of qs) ≤ total
        → ((k : ℕ) → AreLinesOf book columns k qs lines → k + length (joins_of qs) ≤ total → All (Asks columns (length book + total)) qs)
        → All (Asks columns (length book + total)) (q ∷ qs)
    go None is others m more =
        All-cons (Asks columns (length book + total)) q qs (asked_more columns (length book) (length book + total) q.asked (omega arith) is)
        (more (j + 0) others (omega (arith, m)))
    go (Some join) is others m more =
        All-cons (Asks columns (length book + total)) q qs (join_asked columns (length book) j line.at total q.asked join (omega (arith, m)) is)
        (more (j + 1) others (omega (arith, m)))

-- the join lines are few, and each names two graphs
lines_few : (book : List Named) (columns j : ℕ) (qs : List Request) (lines : List Numbered) → AreLinesOf book columns j qs lines → j ≤ 64 → j + length (joins_of qs) ≤ 64
unfolding joins_of
lines_few book columns j [] lines are few = omega (arith, few)
lines_few book columns j (q ∷ qs) [] are few = absurd are
lines_few book columns j (q ∷ qs) (line ∷ lines) are few = go q.joined are.0.1 are.2 (λ k l m. lines_few book columns k qs lines l m)
  where
    go : (joined : Option Join) → IsSaid columns (length book) j line.at q.asked joined → AreLinesOf book columns (j + length (joined_in joined)) qs lines
        → ((k : ℕ) → AreLinesOf book columns k qs lines → k ≤ 64 → k + length (joins_of qs) ≤ 64)
        → j + length (joined_in joined ++ joins_of qs) ≤ 64
    go None is others more = let l = more (j + 0) others (omega (arith, few)) in omega (arith, l)
    go (Some join) is others more = let l = more (j + 1) others (let f = is.few in omega (arith, f)) in omega (arith, l)

lines_joins : (book : List Named) (columns j : ℕ) (qs : List Request) (lines : List Numbered) → AreLinesOf book columns j qs lines → All (IsJoinOf (length book)) (joins_of qs)
unfolding joins_of
lines_joins book columns j [] lines are = All-nil _
lines_joins book columns j (q ∷ qs) [] are = absurd are
lines_joins book columns j (q ∷ qs) (line ∷ lines) are = go q.joined are.0.1 (lines_joins book columns (j + length (joined_in q.joined)) qs lines are.2)
  where
    go : (joined : Option Join) → IsSaid columns (length book) j line.at q.asked joined → All (IsJoinOf (length book)) (joins_of qs) → All (IsJoinOf (length book)) (joined_in joined ++ joins_of qs)
    go None is others = others
    go (Some join) is others = All-cons (IsJoinOf (length book)) join (joins_of qs) is.of others

-- what lines say may stand in a script
pub script_asked : (book : List Named) (columns : ℕ) (qs : List Request) (lines : List Numbered) → AreLinesOf book columns 0 qs lines → IsScript columns (length book) (scripted qs)
script_asked book columns qs lines are = record {
  asked = first_asked columns (length book + length (joins_of qs)) 16 qs (lines_asked book columns 0 (length (joins_of qs)) qs lines are (omega arith));
  joins = record { few = (let l = lines_few book columns 0 qs lines are (omega arith) in omega (arith, l)); each = lines_joins book columns 0 qs lines are };
}

-- ---- how many there are

-- a measure of a client's items that adds up what each of them weighs
pub record Adds (measure : List Asked → ℕ) (weight : Asked → ℕ) : Type 0 where
  pub none : measure [] ≡ 0
  pub more : (a : Asked) (others : List Asked) → measure (a ∷ others) ≡ weight a + measure others

module _ (measure : List Asked → ℕ) (weight : Asked → ℕ) (adds : Adds measure weight) where
  -- one client's, with one request more
  one_more : (client : ℕ) (q : Request) (qs : List Request) → measure (asked_by (q ∷ qs) client) ≡ cond (nat_eq q.client client) (weight q.asked) 0 + measure (asked_by qs client)
  unfolding asked_by
  one_more client q qs = go (nat_eq q.client client) refl
    where
      go : (b : Bool) → nat_eq q.client client ≡ b → measure (asked_by (q ∷ qs) client) ≡ cond (nat_eq q.client client) (weight q.asked) 0 + measure (asked_by qs client)
      go true h = rw h (adds.more q.asked (asked_by qs client))
      go false h = rw h (sym (zero-add (measure (asked_by qs client))))

  -- the first n clients'
  abbrev firsts : ℕ → List Request → ℕ
  firsts n qs = sum_by measure (by_first n qs)

  firsts_more : (n : ℕ) (qs : List Request) → firsts (suc n) qs ≡ firsts n qs + measure (asked_by qs n)
  unfolding by_first asked_by
  firsts_more n qs = ap (λ (k : ℕ). firsts k qs) (sym (add-one n)) ∙ sum_by-map-range_with_len_more measure (asked_by qs) 0 n n (omega arith)

  -- a request weighs at its own client alone
  record Weighs (n : ℕ) (q : Request) (qs : List Request) : Type 0 where
    before : n ≤ q.client → firsts n (q ∷ qs) ≡ firsts n qs
    behind : q.client < n → firsts n (q ∷ qs) ≡ weight q.asked + firsts n qs

  weighs : (n : ℕ) (q : Request) (qs : List Request) → Weighs n q qs
  weighs zero q qs = record { before = λ _. rw (by_first_none (q ∷ qs), by_first_none qs) refl; behind = λ h. absurd (omega arith) }
  weighs (suc n) q qs = go (nat_eq q.client n) refl (weighs n q qs)
    where
      go : (b : Bool) → nat_eq q.client n ≡ b → Weighs n q qs → Weighs (suc n) q qs
      go true h last =
          let is : q.client ≡ n = eqb-true q.client n h in
          let same = last.before (omega arith) in
          let one : measure (asked_by (q ∷ qs) n) ≡ weight q.asked + measure (asked_by qs n) = rw h at (one_more n q qs) in
          let all = firsts_more n (q ∷ qs) in
          let less = firsts_more n qs in
          record { before = λ k. absurd (omega arith); behind = λ _. omega (arith, same, one, all, less) }
      go false h last =
          let other : q.client ≢ n = grind (arith, nat_tests) in
          let one : measure (asked_by (q ∷ qs) n) ≡ 0 + measure (asked_by qs n) = rw h at (one_more n q qs) in
          let all = firsts_more n (q ∷ qs) in
          let less = firsts_more n qs in
          record {
            before = λ k. let same = last.before (omega arith) in omega (arith, same, one, all, less);
            behind = λ k. let same = last.behind (omega arith) in omega (arith, same, one, all, less);
          }

  nothing : (client : ℕ) → measure (asked_by [] client) ≡ 0
  unfolding asked_by
  nothing client = adds.none

  firsts_none : (n : ℕ) → firsts n [] ≡ 0
  firsts_none zero = rw (by_first_none []) refl
  firsts_none (suc n) =
      let last = firsts_none n in
      let none = nothing n in
      omega (arith, last, none, firsts_more n [])

  -- all clients together have no more than there is
  pub firsts_most : (n : ℕ) (qs : List Request) → firsts n qs ≤ sum_by (λ q. weight q.asked) qs
  firsts_most n [] = omega (arith, firsts_none n)
  firsts_most n (q ∷ qs) =
      let others = firsts_most n qs in
      let total = sum_by-cons (λ (x : Request). weight x.asked) q qs in
      let one = weighs n q qs in
      ⊎_elim (λ (h : n ≤ q.client). let same = one.before h in omega (arith, others, total, same)) (λ (h : q.client < n). let same = one.behind h in omega (arith, others, total, same)) (order n q.client)
    where
      order : (a b : ℕ) → (a ≤ b) ⊎ (b < a)
      order a b = go (nat_le a b) refl
        where
          go : (t : Bool) → nat_le a b ≡ t → (a ≤ b) ⊎ (b < a)
          go true h = inl (leb-true a b h)
          go false h = inr (leb-false a b h)

-- each weighs one
ones : (qs : List Request) → sum_by (λ (_ : Request). 1) qs ≡ length qs
ones [] = refl
ones (q ∷ qs) = let total = sum_by-cons (λ (_ : Request). 1) q qs in omega (arith, total, ones qs)

sixteen : (qs : List Request) → length (by_first 16 qs) ≡ 16
unfolding by_first asked_by
sixteen qs = length-map-range_with_len (asked_by qs) 0 16

pub clients_few : (qs : List Request) → AreRequests qs → AreFew (by_first 16 qs)
clients_few qs are =
    let items = firsts_most (λ items. length items) (λ _. 1) (record { none = refl; more = λ a others. omega arith }) 16 qs in
    let sectors = firsts_most (λ items. sum_by read_sectors items) read_sectors (record { none = refl; more = λ a others. sum_by-cons read_sectors a others }) 16 qs in
    record {
      clients = let all = sixteen qs in omega arith;
      items = omega (arith, items, ones qs, are.few);
      sectors = omega (arith, sectors, are.sectors);
    }
