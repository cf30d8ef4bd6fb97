-- The items of each client as they are read, line after line.
use Rattle.std.proofs.Common.{◌≡◌, ◌∙◌, ℕ, ◌+◌, ◌<◌, Bool, true, false, cond, List, [], ◌∷◌, ◌++◌, Result, Ok, Err, length, map, get_or, refl, sym, ap, subst, inl, inr, arith, append-nil, append_assoc}
use Rattle.std.specs.Prelude.{filter, nat_eq}
use Rattle.std.proofs.lemmas.Bool.{cases_eq, eq-eqb, eqb-true, cases_Bool}
use Rattle.std.proofs.lemmas.List.{get_or-set_same, get_or-set_other, map-append, length-append}
use Rattle.std.proofs.lemmas.List.Elements.{filter-append}
use Rattle.std.proofs.lemmas.List.FromFn.{fill_by_all, get_or-map-range_with_len, length-map-range_with_len}
use Rattle.std.proofs.Math.ListN.{length-set}
use Rattle.raid_text.specs.Text.{Text, Numbered, lines_in}
use Rattle.graph_text.specs.Format.{Named}
use Rattle.text_steps.specs.declared.at.At.{At}
use Rattle.raid_script.specs.declared.join.Join.{Join}
use Rattle.raid_script.specs.Asked.{Asked, Request, Scripted, by_first, joins_of, read_sectors, scripted, with_asked, with_request}
use Rattle.raid_script.specs.Format.{next_of, requests_behind}
use Rattle.raid_script.specs.Steps.{requests_of, asked_by, joined_in}
use Rattle.raid_script.proofs.LinesInTurn.{with_front, goes_on, ends, is_done}

-- ## One item more

-- what it adds to a client's
added : Request → ℕ → List Asked
added q client = cond (nat_eq q.client client) (q.asked ∷ []) []

asked_more : (front : List Request) (q : Request) (client : ℕ) → asked_by (front ++ q ∷ []) client ≡ asked_by front client ++ added q client
unfolding asked_by added
asked_more front q client =
    ap (λ (rs : List Request). map (λ r. r.asked) rs) (filter-append (λ r. nat_eq r.client client) front (q ∷ []))
    ∙ (map-append (λ (r : Request). r.asked) (filter (λ r. nat_eq r.client client) front) (filter (λ r. nat_eq r.client client) (q ∷ []))
    ∙ ap (λ (more : List Asked). asked_by front client ++ more) (one (nat_eq q.client client)))
  where
    one : (b : Bool) → map (λ (r : Request). r.asked) (cond b (q ∷ []) []) ≡ cond b (q.asked ∷ []) []
    one true = refl
    one false = refl

-- each client's items, where one item more stands behind those of its client
each : (front : List Request) (q : Request) (client : ℕ) → client < 16 → get_or (with_asked (by_first 16 front) q.client q.asked) client [] ≡ asked_by (front ++ q ∷ []) client
unfolding by_first asked_by added
each front q client below = elim (cases_eq client q.client) [ inl same ↦ own same | inr other ↦ others other ]
  where
    row : List Asked
    row = get_or (by_first 16 front) q.client []

    was : (c : ℕ) → c < 16 → get_or (by_first 16 front) c [] ≡ asked_by front c
    was c l = get_or-map-range_with_len (asked_by front) 0 16 c c [] l (omega arith)

    many : length (by_first 16 front) ≡ 16
    many = length-map-range_with_len (asked_by front) 0 16

    more : (c : ℕ) (b : Bool) → nat_eq q.client c ≡ b → asked_by (front ++ q ∷ []) c ≡ asked_by front c ++ cond b (q.asked ∷ []) []
    more c b e = asked_more front q c ∙ ap (λ (t : Bool). asked_by front c ++ cond t (q.asked ∷ []) []) e

    own : client ≡ q.client → get_or (with_asked (by_first 16 front) q.client q.asked) client [] ≡ asked_by (front ++ q ∷ []) client
    own same =
        let less : q.client < 16 = omega (arith, same, below) in
        let now : get_or (with_asked (by_first 16 front) q.client q.asked) q.client [] ≡ row ++ q.asked ∷ [] = get_or-set_same (by_first 16 front) q.client (row ++ q.asked ∷ []) [] (let n = many in omega (arith, less, n)) in
        let before : row ++ q.asked ∷ [] ≡ asked_by front q.client ++ q.asked ∷ [] = ap (λ (r : List Asked). r ++ q.asked ∷ []) (was q.client less) in
        let all : asked_by (front ++ q ∷ []) q.client ≡ asked_by front q.client ++ q.asked ∷ [] = more q.client true (eq-eqb q.client q.client refl) in
        subst (λ (c : ℕ). get_or (with_asked (by_first 16 front) q.client q.asked) c [] ≡ asked_by (front ++ q ∷ []) c) (sym same) (now ∙ (before ∙ sym all))

    others : (client ≡ q.client → ⊥) → get_or (with_asked (by_first 16 front) q.client q.asked) client [] ≡ asked_by (front ++ q ∷ []) client
    others other =
        let differs : nat_eq q.client client ≡ false = elim (cases_Bool (nat_eq q.client client)) [ inl e ↦ absurd (other (sym (eqb-true q.client client e))) | inr e ↦ e ] in
        let now : get_or (with_asked (by_first 16 front) q.client q.asked) client [] ≡ get_or (by_first 16 front) client [] = get_or-set_other (by_first 16 front) q.client client (row ++ q.asked ∷ []) [] other in
        let all : asked_by (front ++ q ∷ []) client ≡ asked_by front client ++ [] = more client false differs in
        now ∙ (was client below ∙ sym (all ∙ append-nil (asked_by front client)))

sorted_more : (front : List Request) (q : Request) → with_asked (by_first 16 front) q.client q.asked ≡ by_first 16 (front ++ q ∷ [])
unfolding by_first asked_by
sorted_more front q =
    fill_by_all (asked_by (front ++ q ∷ [])) (with_asked (by_first 16 front) q.client q.asked) 16 []
    (length-set (by_first 16 front) q.client (get_or (by_first 16 front) q.client [] ++ q.asked ∷ []) ∙ length-map-range_with_len (asked_by front) 0 16)
    (λ client below. each front q client below)

-- ## Join lines

joins_more : (front : List Request) (q : Request) → joins_of front ++ joined_in q.joined ≡ joins_of (front ++ q ∷ [])
unfolding joins_of
joins_more [] q = sym (append-nil (joined_in q.joined))
joins_more (r ∷ front) q = append_assoc (joined_in r.joined) (joins_of front) (joined_in q.joined) ∙ ap (λ (js : List Join). joined_in r.joined ++ js) (joins_more front q)

-- ## All lines

-- the script of the lines so far, and that the lines behind them give the rest of what the text asks for
pub record HasRead (book : List Named) (columns : ℕ) (text : Text) (script : Scripted) (n r : ℕ) (lines : List Numbered) : Type 0 where
  pub front : List Request
  pub sorted : script ≡ scripted front
  pub told : with_front front (requests_behind book columns n r (length script.joins) lines) ≡ requests_of book columns text

pub none_read : (book : List Named) (columns : ℕ) (text : Text) (script : Scripted) (lines : List Numbered) → script ≡ scripted [] → lines ≡ lines_in text → HasRead book columns text script 0 0 lines
unfolding joins_of
none_read book columns text script lines none all = record {
  front = [];
  sorted = none;
  told = ap (λ (s : Scripted). with_front [] (requests_behind book columns 0 0 (length s.joins) lines)) none
      ∙ (ap (λ (ls : List Numbered). with_front [] (requests_behind book columns 0 0 0 ls)) all ∙ same (requests_of book columns text));
}
  where
    same : (read : Result (List Request) At) → with_front [] read ≡ read
    same (Ok requests) = refl
    same (Err fault) = refl

pub one_read : (book : List Named) (columns : ℕ) (text : Text) (script : Scripted) (n r : ℕ) (line : Numbered) (lines : List Numbered) (q : Request) → next_of book columns n r (length script.joins) line ≡ Ok q
    → HasRead book columns text script n r (line ∷ lines) → HasRead book columns text (with_request script q) (n + 1) (r + read_sectors q.asked) lines
one_read book columns text script n r line lines q h so_far = record {
  front = so_far.front ++ q ∷ [];
  sorted = ap (λ (x : Scripted). with_request x q) so_far.sorted
      ∙ (ap (λ (rows : List (List Asked)). script_with rows (joins_of so_far.front ++ joined_in q.joined)) (sorted_more so_far.front q)
      ∙ ap (λ (js : List Join). script_with (by_first 16 (so_far.front ++ q ∷ [])) js) (joins_more so_far.front q));
  told = subst (λ (j : ℕ). with_front (so_far.front ++ q ∷ []) (requests_behind book columns (n + 1) (r + read_sectors q.asked) j lines) ≡ requests_of book columns text)
      (sym (length-append script.joins (joined_in q.joined)))
      (goes_on book columns n r (length script.joins) so_far.front line lines q (requests_of book columns text) h so_far.told);
}
  where
    script_with : List (List Asked) → List Join → Scripted
    script_with rows joins = record { clients = rows; joins = joins }

pub one_refused : (book : List Named) (columns : ℕ) (text : Text) (script : Scripted) (n r code : ℕ) (line : Numbered) (lines : List Numbered) → next_of book columns n r (length script.joins) line ≡ Err code
    → HasRead book columns text script n r (line ∷ lines) → requests_of book columns text ≡ Err (record { line = line.at; code = code })
one_refused book columns text script n r code line lines h so_far = ends book columns n r (length script.joins) code so_far.front line lines (requests_of book columns text) h so_far.told

pub all_read : (book : List Named) (columns : ℕ) (text : Text) (script : Scripted) (n r : ℕ) → (so_far : HasRead book columns text script n r []) → requests_of book columns text ≡ Ok so_far.front
all_read book columns text script n r so_far = is_done book columns n r (length script.joins) so_far.front (requests_of book columns text) so_far.told

-- there are sixteen clients
pub read_clients : (book : List Named) (columns : ℕ) (text : Text) (script : Scripted) (n r : ℕ) (lines : List Numbered) → HasRead book columns text script n r lines → length script.clients ≡ 16
unfolding by_first asked_by
read_clients book columns text script n r lines so_far = ap (λ (x : Scripted). length x.clients) so_far.sorted ∙ length-map-range_with_len (asked_by so_far.front) 0 16
