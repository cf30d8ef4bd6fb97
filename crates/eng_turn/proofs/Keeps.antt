-- Each step of a turn keeps its rule.
use Rattle.std.proofs.Common.{◌≡◌, ℕ, zero, suc, ◌+◌, ◌-◌, ◌*◌, ◌%◌, ◌^◌, ◌<◌, ◌≤◌, ◌≢◌, List, [], ◌∷◌, ◌++◌, map, get_or, set, sym, refl, ap, ◌∙◌, subst, inl, inr, ⊎_elim, arith, length-set, get_or-set_same, append-nil, bit_or, sum_by, Option as StdOption, Some, None}
use mathlib.Core.Logic.{dite}
use mathlib.Core.Option.{Option, none, some, some-injective, some-ne-none}
use mathlib.Core.List.{map-append}
use native.Mathlib.Decide.{ℕ_discrete}
use lib.ListN.{get_elem?}
use lib.Seq.{map-set}
use Rattle.atomic_table.specs.Table.{State, step, keeps, takes, gives, rest, Allows, Final, Seen, opening, Splits as SplitsSeat, Joins as JoinsSeat}
use Rattle.atomic_table.proofs.Lists.{at_set, set_again, at_snoc, at_map}
use Rattle.eng_turn.specs.declared.view.Resting.{Resting}
use Rattle.eng_turn.specs.declared.view.Change.{Change}
use Rattle.eng_turn.specs.declared.view.Change.TheVariants.{Settled, Splitting, Joining}
use Rattle.eng_turn.specs.declared.view.Stage.{Stage}
use Rattle.eng_turn.specs.declared.view.Stage.TheVariants.{Outside, Inside}
use Rattle.eng_turn.specs.declared.view.PassView.{PassView}
use Rattle.eng_turn.specs.View.{live, under_way, handed_on, within, ticket_or, Content, Mine, view_ticket, counted, inside, part, with_share, with_stage, left_with, opener, split_off, spent_view}
use Rattle.eng_turn.specs.Rule.{Placed, Knows, Kept}
use Rattle.eng_turn.specs.Steps.{FitsAmong, Took, given_view, Gave, CountedUp, CountedDown}
use Rattle.eng_turn.proofs.Sums.{sum_by_set, sum_by_snoc, sum_by_has, sum_by_has_two, sum_by_below, sum_by_one, cut}
use Rattle.eng_turn.proofs.Words.{live_le, live_some, or_even, or_odd}

first : (l : List ℕ) (n : ℕ) → get_elem? l 0 ≡ some n → get_or l 0 0 ≡ n
first [] n e = absurd (some-ne-none n (sym e))
first (x ∷ xs) n e = some-injective x n e

only : {A : Type 0} → (x : A) (i : ℕ) (y : A) → get_elem? (x ∷ []) i ≡ some y → y ≡ x
only x zero y e = sym (some-injective x y e)
only x (suc i) y e = absurd (some-ne-none y (sym e))

-- a property of each pass stays where one changes
passes_stay : {A : Type 0} (K : A → Type 0) (vs : List A) (me : ℕ) (w : A) → K w → ((j : ℕ) (d : A) → j ≢ me → get_elem? vs j ≡ some d → K d)
    → (j : ℕ) (d : A) → get_elem? (set vs me w) j ≡ some d → K d
passes_stay K vs me w mine others j d e = ⊎_elim (λ (t : (j ≡ me) × (w ≡ d)). subst K t.1 mine) (λ (t : (j ≢ me) × (get_elem? vs j ≡ some d)). others j d t.0 t.1) (at_set vs me j w d e)

abbrev or_else : {A : Type 0} → StdOption A → A → A
or_else (Some x) y = x
or_else None y = y

abbrev value_or : {V : Type 0} → Stage V → V → V
value_or (Inside x) y = x
value_or Outside y = y

abbrev has : {A : Type 0} → StdOption A → ℕ
has (Some x) = 1
has None = 0

pub some_value : {A : Type 0} → (x y : A) → Some x ≡ Some y → x ≡ y
some_value x y e = ap (λ (o : StdOption _). or_else o x) e

inside_value : {V : Type 0} → (x y : V) → Inside x ≡ Inside y → x ≡ y
inside_value x y e = ap (λ (o : Stage _). value_or o x) e

pub not_some : {V : Type 0} → (x : V) → None ≡ Some x → ⊥
not_some {V} x d = let z : zero ≡ suc zero = ap (λ (o : StdOption V). has o) d in absurd (omega arith)

not_inside : {V : Type 0} → (x : V) → Outside ≡ Inside x → ⊥
not_inside {V} x d = let z : zero ≡ suc zero = ap (λ (o : Stage V). within o) d in absurd (omega arith)

module _ {V T : Type 0} where
  tickets_set : (vs : List (PassView V T)) (i : ℕ) (w : PassView V T) → map view_ticket (set vs i w) ≡ set (map view_ticket vs) i w.ticket
  tickets_set vs i w = map-set view_ticket vs i w

  module _ (empty : T) (fits : V → V → List T → Type 0) (after : V → V → Type 0) (opening : V) where
    abbrev Rule : State (Content V T) (PassView V T) → Type 0
    Rule = Kept empty fits after opening

    abbrev OK : V → PassView V T → Type 0
    OK = Knows empty fits after opening

    counted_le : (value : V) (v : PassView V T) → OK value v → (b : Change) → v.change ≡ b → live v.share + under_way b ≤ v.share + handed_on b
    counted_le value v k Settled e = let a = live_le v.share in omega arith
    counted_le value v k Splitting e = let a = live_le v.share in omega arith
    counted_le value v k Joining e = let a = k.joins e in let b = live_some v.share (omega arith) in omega arith

    counts : (s : State (Content V T) (PassView V T)) (r : Rule s) → sum_by counted s.views ≤ 65536
    counts s r = let le = sum_by_below counted part s.views (λ i v e. counted_le r.value v (r.each i v e) v.change refl) in let all = r.shares in omega arith

    inside_le : (s : State (Content V T) (PassView V T)) (r : Rule s) → sum_by inside s.views ≤ 1
    inside_le s r = ⊎_elim (λ (t : (sum_by inside s.views ≡ 0) × ((h : Resting V T) × (s.homes ≡ some (Some h) ∷ []) × (h.value ≡ r.value))). let a = t.0 in omega arith)
        (λ (t : (sum_by inside s.views ≡ 1) × (s.homes ≡ none ∷ [])). let a = t.0 in omega arith) r.place

    -- the view id goes from v to w, and the word to n
    moved : (s : State (Content V T) (PassView V T)) (r : Rule s) (id n : ℕ) (v w : PassView V T) (value : V) (homes : List (Option (Content V T))) → get_elem? s.views id ≡ some v
        → n + (2 * counted v + inside v) ≡ get_or s.words 0 0 + (2 * counted w + inside w) → part w ≡ part v → OK value w
        → ((j : ℕ) (d : PassView V T) → j ≢ id → get_elem? s.views j ≡ some d → OK value d) → fits opening value (set (map view_ticket s.views) id w.ticket)
        → Placed value (sum_by inside (set s.views id w)) homes → Rule record { words = set s.words 0 n; homes = homes; views = set s.views id w }
    moved s r id n v w value homes at sum same mine others fit place =
        let a = sum_by_set counted s.views id v w at in let b = sum_by_set inside s.views id v w at in let c = sum_by_set part s.views id v w at in let wide = r.wide in let word = r.word in let all = r.shares in
        let now : get_or (set s.words 0 n) 0 0 ≡ n = get_or-set_same s.words 0 n 0 (omega arith) in record {
          value = value;
          wide = length-set s.words 0 n ∙ wide;
          word = now ∙ omega arith;
          shares = omega arith;
          each = passes_stay (OK value) s.views id w mine others;
          fitting = subst (fits opening value) (sym (tickets_set s.views id w)) fit;
          place = place;
        }

    others_stay : (s : State (Content V T) (PassView V T)) (r : Rule s) (id : ℕ) → (j : ℕ) (d : PassView V T) → j ≢ id → get_elem? s.views j ≡ some d → OK r.value d
    others_stay s r id j d _ e = r.each j d e

    word_small : (s : State (Content V T) (PassView V T)) (r : Rule s) → get_or s.words 0 0 < 131074
    word_small s r = let a = counts s r in let b = inside_le s r in let w = r.word in omega arith

    -- the view id takes the place of one with the same ticket
    same_tickets : (value : V) (s : State (Content V T) (PassView V T)) (id : ℕ) (v : PassView V T) → get_elem? s.views id ≡ some v → fits opening value (map view_ticket s.views) → fits opening value (set (map view_ticket s.views) id v.ticket)
    same_tickets value s id v at = subst (fits opening value) (sym (set_again (map view_ticket s.views) id v.ticket (at_map view_ticket s.views id v at)))

    among : (value : V) (s : State (Content V T) (PassView V T)) (id : ℕ) (v : PassView V T) → get_elem? s.views id ≡ some v → fits opening value (map view_ticket s.views) → FitsAmong fits opening value v.ticket
    among value s id v at fit = let c = cut (map view_ticket s.views) id v.ticket (at_map view_ticket s.views id v at) in (c.0, c.1, subst (fits opening value) c.2 fit)

    unmoved : (s : State (Content V T) (PassView V T)) (r : Rule s) (id n : ℕ) (v : PassView V T) → get_elem? s.views id ≡ some v → n ≡ get_or s.words 0 0 → Rule record { words = set s.words 0 n; homes = s.homes; views = set s.views id v }
    unmoved s r id n v at e = moved s r id n v v r.value s.homes at (omega arith) refl (r.each id v at) (others_stay s r id) (same_tickets r.value s id v at r.fitting)
        (subst (λ (vs : List (PassView V T)). Placed r.value (sum_by inside vs) s.homes) (sym (set_again s.views id v at)) r.place)

    entering : (s : State (Content V T) (PassView V T)) (r : Rule s) (v : PassView V T) (e : V) → 0 < v.share → e ≡ r.value → OK r.value v → OK r.value (with_stage v (Inside e))
    entering s r v e some_share same k = record {
      opened = k.opened;
      marked = k.marked;
      spent = λ z. absurd (omega arith);
      joins = k.joins;
      entered = λ x is. sym (inside_value e x is) ∙ same;
    }

    pub takes_it : (slots id : ℕ) (me : Mine V T) → 0 < me.0.share → me.0.stage ≡ Outside → Allows Rule slots id me 0 (λ n. bit_or n 1) (Took fits after (step slots 0 1 0 none) me)
    takes_it slots id me some_share out s r _ at _ = let v : PassView V T = me.0 in let n : ℕ = get_or s.words 0 0 in let c : ℕ = sum_by counted s.views in let word = r.word in let small = word_small s r in ⊎_elim
        (λ (t : (sum_by inside s.views ≡ 0) × ((h : Resting V T) × (s.homes ≡ some (Some h) ∷ []) × (h.value ≡ r.value))).
        let none_in = t.0 in let h : Resting V T = t.1.0 in let w : PassView V T = with_stage v (Inside h.value) in let i = sum_by_set inside s.views id v w at in let was : inside v ≡ 0 = ap within out in
        let up = or_even c n (omega arith) in let even : n % 2 ≡ 0 = omega arith in (
          w,
          takes 0 (Some h),
          subst (λ (hs : List (Option (Content V T))). get_elem? hs 0 ≡ some (some (Some h))) (sym t.1.1) refl,
          moved s r id (bit_or n 1) v w r.value (set s.homes 0 none) at (omega arith) refl (entering s r v h.value some_share t.1.2 (r.each id v at)) (others_stay s r id) (same_tickets r.value s id v at r.fitting)
              (inr (omega arith, ap (λ (hs : List (Option (Content V T))). set hs 0 none) t.1.1)),
          (
            omega arith,
            (λ odd. absurd (omega arith)),
            (λ _. (
              h,
              refl,
              (λ o is. subst (λ (y : V). FitsAmong fits y h.value v.ticket) (some_value opening o (sym ((r.each id v at).opened some_share) ∙ is))
                  (subst (λ (y : V). FitsAmong fits opening y v.ticket) (sym t.1.2) (among r.value s id v at r.fitting))),
              (λ k is. subst (after k) (sym t.1.2) ((r.each id v at).marked k is)),
            )),
          ),
        ))
        (λ (t : (sum_by inside s.views ≡ 1) × (s.homes ≡ none ∷ [])).
        let one_in = t.0 in let up = or_odd c n (omega arith) in (
          v,
          keeps,
          tt,
          unmoved s r id (bit_or n 1) v at up,
          (omega arith, (λ _. refl), (λ even. absurd (omega arith))),
        ))
        r.place

    inside_one : (s : State (Content V T) (PassView V T)) (r : Rule s) (id : ℕ) (v : PassView V T) (e : V) → get_elem? s.views id ≡ some v → v.stage ≡ Inside e → sum_by inside s.views ≡ 1
    inside_one s r id v e at is = let a = sum_by_has inside s.views id v at in let b = inside_le s r in let c : inside v ≡ 1 = ap within is in omega arith

    others_outside : (s : State (Content V T) (PassView V T)) (r : Rule s) (id : ℕ) (v : PassView V T) (e : V) → get_elem? s.views id ≡ some v → v.stage ≡ Inside e
        → (j : ℕ) (d : PassView V T) → j ≢ id → get_elem? s.views j ≡ some d → inside d ≡ 0
    others_outside s r id v e at is j d apart there = let a = sum_by_has_two inside s.views id j v d apart at there in let b = inside_le s r in let c : inside v ≡ 1 = ap within is in omega arith

    out_of : (s : State (Content V T) (PassView V T)) (r : Rule s) → sum_by inside s.views ≡ 1 → s.homes ≡ none ∷ []
    out_of s r one = ⊎_elim (λ (t : (sum_by inside s.views ≡ 0) × ((h : Resting V T) × (s.homes ≡ some (Some h) ∷ []) × (h.value ≡ r.value))). let z = t.0 in absurd (omega arith))
        (λ (t : (sum_by inside s.views ≡ 1) × (s.homes ≡ none ∷ [])). t.1) r.place

    module _ (same : (v : V) → after v v) (onward : (u v w : V) → after u v → after v w → after u w) where
      pub gives_it : (slots id : ℕ) (v : PassView V T) (h : Resting V T) (k : List (ℕ × Content V T)) (e : V) → 0 < v.share → v.stage ≡ Inside e → after e h.value
          → ((xs ys : List T) → fits opening e (xs ++ v.ticket ∷ ys) → fits opening h.value (xs ++ ticket_or h.ticket v.ticket ∷ ys))
          → Allows Rule slots id (v, (0, Some h) ∷ k) 0 (λ n. (n + (2 ^ 64 - 1)) % 2 ^ 64) (Gave (step slots 0 1 0 none) (v, (0, Some h) ∷ k))
      gives_it slots id v h k e some_share is on fitting s r _ at _ = let n : ℕ = get_or s.words 0 0 in let word = r.word in let small = word_small s r in let one_in = inside_one s r id v e at is in
          let t : T = ticket_or h.ticket v.ticket in let w : PassView V T = left_with v h.value t in let was : inside v ≡ 1 = ap within is in let i = sum_by_set inside s.views id v w at in
          let known = r.each id v at in let e' : e ≡ r.value = known.entered e is in let c = cut (map view_ticket s.views) id v.ticket (at_map view_ticket s.views id v at) in (
            w,
            gives,
            tt,
            moved s r id ((n + (2 ^ 64 - 1)) % 2 ^ 64) v w h.value (set s.homes 0 (some (Some h))) at (omega arith) refl
                record {
                  opened = known.opened;
                  marked = λ m d. subst (λ (y : V). after y h.value) (some_value h.value m d) (same h.value);
                  spent = λ z. absurd (omega arith);
                  joins = known.joins;
                  entered = λ x d. absurd (not_inside x d);
                }
                (λ j d apart there. let q = r.each j d there in record {
                  opened = q.opened;
                  marked = λ m d'. onward m r.value h.value (q.marked m d') (subst (λ (y : V). after y h.value) e' on);
                  spent = q.spent;
                  joins = q.joins;
                  entered = λ x d'. let z = others_outside s r id v e at is j d apart there in let o : inside d ≡ 1 = ap within d' in absurd (omega arith);
                })
                (subst (fits opening h.value) (sym (c.3 t)) (fitting c.0 c.1 (subst (λ (y : V). fits opening y (c.0 ++ v.ticket ∷ c.1)) (sym e') (subst (fits opening r.value) c.2 r.fitting))))
                (inl (omega arith, (h, ap (λ (hs : List (Option (Content V T))). set hs 0 (some (Some h))) (out_of s r one_in), refl))),
            refl,
          )

    placed_same : (s : State (Content V T) (PassView V T)) (r : Rule s) (vs : List (PassView V T)) → sum_by inside vs ≡ sum_by inside s.views → Placed r.value (sum_by inside vs) s.homes
    placed_same s r vs e = subst (λ (n : ℕ). Placed r.value n s.homes) (sym e) r.place

    pub counts_up : (slots id : ℕ) (me : Mine V T) → 2 ≤ me.0.share → me.0.change ≡ Settled → Allows Rule slots id me 0 (λ n. (n + 2) % 2 ^ 64) (CountedUp (step slots 0 2 0 none) me)
    counts_up slots id me two settled s r _ at _ = let v : PassView V T = me.0 in let n : ℕ = get_or s.words 0 0 in let small = word_small s r in let w : PassView V T = with_share v (v.share - 1) Splitting in
        let was : under_way v.change ≡ 0 = ap under_way settled in let gave : handed_on v.change ≡ 0 = ap handed_on settled in let a = live_some v.share (omega arith) in let b = live_some (v.share - 1) (omega arith) in
        let known = r.each id v at in let i = sum_by_set inside s.views id v w at in (
          w,
          keeps,
          tt,
          moved s r id ((n + 2) % 2 ^ 64) v w r.value s.homes at (omega arith) (omega arith)
              record {
                opened = λ _. known.opened (omega arith);
                marked = known.marked;
                spent = λ z. absurd (omega arith);
                joins = λ d. let z : suc zero ≡ zero = ap handed_on d in absurd (omega arith);
                entered = known.entered;
              }
              (others_stay s r id) (same_tickets r.value s id v at r.fitting) (placed_same s r (set s.views id w) (omega arith)),
          refl,
        )

    pub counts_down : (slots id : ℕ) (me : Mine V T) → 0 < me.0.share → me.0.change ≡ Joining → Allows Rule slots id me 0 (λ n. (n + (2 ^ 64 - 2)) % 2 ^ 64) (CountedDown (step slots 0 2 0 none) me)
    counts_down slots id me some_share joins s r _ at _ = let v : PassView V T = me.0 in let n : ℕ = get_or s.words 0 0 in let small = word_small s r in let w : PassView V T = with_share v v.share Settled in let word = r.word in
        let was : under_way v.change ≡ 1 = ap under_way joins in let gave : handed_on v.change ≡ 0 = ap handed_on joins in let a = sum_by_has counted s.views id v at in
        let known = r.each id v at in let i = sum_by_set inside s.views id v w at in (
          w,
          keeps,
          tt,
          moved s r id ((n + (2 ^ 64 - 2)) % 2 ^ 64) v w r.value s.homes at (omega arith) (omega arith)
              record {
                opened = known.opened;
                marked = known.marked;
                spent = λ z. absurd (omega arith);
                joins = λ d. let z : zero ≡ suc zero = ap under_way d in absurd (omega arith);
                entered = known.entered;
              }
              (others_stay s r id) (same_tickets r.value s id v at r.fitting) (placed_same s r (set s.views id w) (omega arith)),
          refl,
        )

    pub splits_it : (id : ℕ) (v : PassView V T) → ((o u : V) (xs : List T) → fits o u xs → fits o u (xs ++ empty ∷ [])) → 0 < v.share → v.change ≡ Splitting
        → SplitsSeat Rule id v (with_share v v.share Settled) (split_off empty v)
    splits_it id v adds some_share splits s r at = let left : PassView V T = with_share v v.share Settled in let right : PassView V T = split_off empty v in let vs : List (PassView V T) = set s.views id left in
        let known = r.each id v at in let was : under_way v.change ≡ 1 = ap under_way splits in let gave : handed_on v.change ≡ 1 = ap handed_on splits in let word = r.word in let all = r.shares in
        let a = sum_by_set counted s.views id v left at in let b = sum_by_set inside s.views id v left at in let c = sum_by_set part s.views id v left at in
        let a' = sum_by_snoc counted vs right in let b' = sum_by_snoc inside vs right in let c' = sum_by_snoc part vs right in
        let mine : OK r.value left = record {
          opened = known.opened;
          marked = known.marked;
          spent = λ z. absurd (omega arith);
          joins = λ d. let z : zero ≡ suc zero = ap under_way d in absurd (omega arith);
          entered = known.entered;
        } in
        let new : OK r.value right = record {
          opened = λ _. known.opened some_share;
          marked = known.marked;
          spent = λ z. absurd (omega arith);
          joins = λ d. let z : zero ≡ suc zero = ap under_way d in absurd (omega arith);
          entered = λ x d. absurd (not_inside x d);
        } in record {
          value = r.value;
          wide = r.wide;
          word = omega arith;
          shares = omega arith;
          each = λ j d e. ⊎_elim (passes_stay (OK r.value) s.views id left mine (others_stay s r id) j d) (λ (t : right ≡ d). subst (OK r.value) t new) (at_snoc vs right d j e);
          fitting = subst (fits opening r.value) (sym (map-append view_ticket vs (right ∷ []) ∙ ap (λ (l : List T). l ++ empty ∷ []) (tickets_set s.views id left)))
              (adds opening r.value (set (map view_ticket s.views) id v.ticket) (same_tickets r.value s id v at r.fitting));
          place = placed_same s r (vs ++ right ∷ []) (omega arith);
        }

    pub joins_it : (id : ℕ) (v : PassView V T) (other : ℕ) (u : PassView V T) → 0 < v.share → v.change ≡ Settled → 0 < u.share → u.change ≡ Settled → u.stage ≡ Outside → u.ticket ≡ empty
        → JoinsSeat Rule id v other u (with_share v (v.share + u.share) Joining) (spent_view empty)
    joins_it id v other u v_share v_calm u_share u_calm u_out u_empty s r at apart there = let both : PassView V T = with_share v (v.share + u.share) Joining in let spent : PassView V T = spent_view empty in
        let vs : List (PassView V T) = set s.views id both in let ws : List (PassView V T) = set vs other spent in
        let known = r.each id v at in let word = r.word in let all = r.shares in
        let m0 : under_way v.change ≡ 0 = ap under_way v_calm in let g0 : handed_on v.change ≡ 0 = ap handed_on v_calm in let m1 : under_way u.change ≡ 0 = ap under_way u_calm in let g1 : handed_on u.change ≡ 0 = ap handed_on u_calm in
        let i1 : inside u ≡ 0 = ap within u_out in let l0 = live_some v.share v_share in let l1 = live_some u.share u_share in let l2 = live_some (v.share + u.share) (omega arith) in
        let a = sum_by_set counted s.views id v both at in let b = sum_by_set inside s.views id v both at in let c = sum_by_set part s.views id v both at in
        let a' = sum_by_set counted vs other u spent there in let b' = sum_by_set inside vs other u spent there in let c' = sum_by_set part vs other u spent there in
        let mine : OK r.value both = record {
          opened = λ _. known.opened v_share;
          marked = known.marked;
          spent = λ z. absurd (omega arith);
          joins = λ _. omega arith;
          entered = known.entered;
        } in
        let gone : OK r.value spent = record {
          opened = λ z. absurd (omega arith);
          marked = λ m d. absurd (not_some m d);
          spent = λ _. (refl, refl, refl);
          joins = λ d. let z : zero ≡ suc zero = ap under_way d in absurd (omega arith);
          entered = λ x d. absurd (not_inside x d);
        } in record {
          value = r.value;
          wide = r.wide;
          word = omega arith;
          shares = omega arith;
          each = passes_stay (OK r.value) vs other spent gone (λ j d _ e. passes_stay (OK r.value) s.views id both mine (others_stay s r id) j d e);
          fitting = subst (fits opening r.value) (sym (tickets_set vs other spent ∙ (ap (set (map view_ticket vs) other) (sym u_empty) ∙ set_again (map view_ticket vs) other u.ticket (at_map view_ticket vs other u there)) ∙ tickets_set s.views id both))
              (same_tickets r.value s id v at r.fitting);
          place = placed_same s r ws (omega arith);
        }

    module _ (drops : (o u : V) (xs ys : List T) → fits o u (xs ++ empty ∷ ys) → fits o u (xs ++ ys)) (value : V) where
      strip : (vs : List (PassView V T)) (xs : List T) → ((j : ℕ) (d : PassView V T) → get_elem? vs j ≡ some d → d.ticket ≡ empty) → fits opening value (xs ++ map view_ticket vs) → fits opening value xs
      strip [] xs none_more f = subst (fits opening value) (append-nil xs) f
      strip (x ∷ vs) xs none_more f = strip vs xs (λ j d e. none_more (suc j) d e) (drops opening value xs (map view_ticket vs) (subst (λ (t : T). fits opening value (xs ++ t ∷ map view_ticket vs)) (none_more zero x refl) f))

      alone : (vs : List (PassView V T)) (id : ℕ) (v : PassView V T) → get_elem? vs id ≡ some v → ((j : ℕ) (d : PassView V T) → j ≢ id → get_elem? vs j ≡ some d → d.ticket ≡ empty) → fits opening value (map view_ticket vs) → fits opening value (v.ticket ∷ [])
      alone [] id v at none_more f = absurd (some-ne-none v (sym at))
      alone (x ∷ vs) zero v at none_more f = subst (λ (t : T). fits opening value (t ∷ [])) (ap view_ticket (some-injective x v at)) (strip vs (x.ticket ∷ []) (λ j d e. none_more (suc j) d (λ z. omega arith) e) f)
      alone (x ∷ vs) (suc id) v at none_more f = alone vs id v at (λ j d apart e. none_more (suc j) d (λ z. apart (omega arith)) e)
          (drops opening value [] (map view_ticket vs) (subst (λ (t : T). fits opening value (t ∷ map view_ticket vs)) (none_more zero x (λ z. omega arith) refl) f))

    count_one : (value : V) (v : PassView V T) → OK value v → counted v ≡ 0 → v.ticket ≡ empty
    count_one value v k z = let a = dite (ℕ_discrete v.share 0) (λ (is : v.share ≡ 0). is) (λ (not : v.share ≢ 0). let l = live_some v.share (omega arith) in absurd (omega arith)) in (k.spent a).0

    -- what is known of a turn that no thread shares any more
    abbrev pub Ends : PassView V T → ℕ → Content V T → Type 0
    Ends v word content =
        (word ≡ 2 → (v.share ≡ 65536) × ((h : Resting V T) × (content ≡ Some h) × fits opening h.value (v.ticket ∷ []) × ((k : V) → v.mark ≡ Some k → after k h.value)))
        × (word ≢ 2 → v.share < 65536)

    no_share : (v : PassView V T) → counted v ≡ 0 → v.share ≡ 0
    no_share v z = dite (ℕ_discrete v.share 0) (λ (is : v.share ≡ 0). is) (λ (not : v.share ≢ 0). let l = live_some v.share (omega arith) in absurd (omega arith))

    spent_counts : (value : V) (d : PassView V T) → OK value d → d.share ≡ 0 → (counted d ≡ 0) × (inside d ≡ 0) × (part d ≡ 0)
    spent_counts value d k z = let t = k.spent z in let a : under_way d.change ≡ 0 = ap under_way t.1 in let b : handed_on d.change ≡ 0 = ap handed_on t.1 in let c : inside d ≡ 0 = ap within t.2 in let e : live d.share ≡ 0 = ap live z in
        (omega arith, c, omega arith)

    pub ends : (drops : (o u : V) (xs ys : List T) → fits o u (xs ++ empty ∷ ys) → fits o u (xs ++ ys)) (id : ℕ) (v : PassView V T) (ws : List ℕ) (xs : List (Content V T)) (n : ℕ) (content : Content V T)
        → 0 < v.share → v.change ≡ Settled → v.stage ≡ Outside → Final (Seen Rule id v) ws xs → get_elem? ws 0 ≡ some n → get_elem? xs 0 ≡ some content → Ends v n content
    ends drops id v ws xs n content some_share settled out t first_word first_slot = let s = t.0 in let r : Rule s = t.1.0 in let at : get_elem? s.views id ≡ some v = t.1.1 in
        let word : n ≡ 2 * sum_by counted s.views + sum_by inside s.views = sym (first ws n first_word) ∙ (ap (λ (l : List ℕ). get_or l 0 0) (sym t.2) ∙ r.word) in let le = inside_le s r in let all = r.shares in
        let l = live_some v.share some_share in let m0 : under_way v.change ≡ 0 = ap under_way settled in let g0 : handed_on v.change ≡ 0 = ap handed_on settled in let i0 : inside v ≡ 0 = ap within out in (
          (λ two.
              let others : (j : ℕ) (d : PassView V T) → j ≢ id → get_elem? s.views j ≡ some d → d.share ≡ 0 = λ j d apart e. let h = sum_by_has_two counted s.views id j v d apart at e in no_share d (omega arith) in
              let parts = sum_by_one part s.views id v at (λ j d apart e. (spent_counts r.value d (r.each j d e) (others j d apart e)).2) in
              ⊎_elim (λ (p : (sum_by inside s.views ≡ 0) × ((h : Resting V T) × (s.homes ≡ some (Some h) ∷ []) × (h.value ≡ r.value))). (
                omega arith,
                (
                  p.1.0,
                  some-injective content (Some p.1.0) (sym first_slot ∙ t.4 0 (Some p.1.0) (subst (λ (hs : List (Option (Content V T))). get_elem? hs 0 ≡ some (some (Some p.1.0))) (sym p.1.1) refl)),
                  subst (λ (y : V). fits opening y (v.ticket ∷ [])) (sym p.1.2) (alone drops r.value s.views id v at (λ j d apart e. ((r.each j d e).spent (others j d apart e)).0) r.fitting),
                  (λ k is. subst (after k) (sym p.1.2) ((r.each id v at).marked k is)),
                ),
              ))
              (λ (p : (sum_by inside s.views ≡ 1) × (s.homes ≡ none ∷ [])). let one = p.0 in absurd (omega arith)) r.place),
          (λ not. dite (ℕ_discrete v.share 65536)
              (λ (whole : v.share ≡ 65536).
              let others : (j : ℕ) (d : PassView V T) → j ≢ id → get_elem? s.views j ≡ some d → d.share ≡ 0 = λ j d apart e. let h = sum_by_has_two part s.views id j v d apart at e in omega arith in
              let a = sum_by_one counted s.views id v at (λ j d apart e. (spent_counts r.value d (r.each j d e) (others j d apart e)).0) in
              let b = sum_by_one inside s.views id v at (λ j d apart e. (spent_counts r.value d (r.each j d e) (others j d apart e)).1) in absurd (not (omega arith)))
              (λ (less : v.share ≢ 65536). let h = sum_by_has part s.views id v at in omega arith)),
        )

  pub gave_to : (v : PassView V T) (h : Resting V T) (k : List (ℕ × Content V T)) (m m' : Mine V T) → m ≡ (v, (0, Some h) ∷ k) → m' ≡ (given_view m.0 m.1, rest m.1) → m' ≡ (left_with v h.value (ticket_or h.ticket v.ticket), k)
  gave_to v h k m m' a b = b ∙ ap (λ (x : Mine V T). (given_view x.0 x.1, rest x.1)) a

  pub opens : (empty : T) (fits : V → V → List T → Type 0) (after : V → V → Type 0) (same : (v : V) → after v v) (o : V) (h : Resting V T) → h.value ≡ o → fits o o (empty ∷ [])
      → Kept empty fits after o (opening (2 ∷ []) (Some h ∷ []) (opener empty o))
  opens empty fits after same o h is f = record {
    value = o;
    wide = refl;
    word = refl;
    shares = refl;
    each = λ i v e. subst (Knows empty fits after o o) (sym (only (opener empty o) i v e)) record {
      opened = λ _. refl;
      marked = λ m d. subst (λ (k : V). after k o) (some_value o m d) (same o);
      spent = λ z. absurd (omega arith);
      joins = λ _. omega arith;
      entered = λ x d. absurd (not_inside x d);
    };
    fitting = f;
    place = inl (refl, (h, refl, is));
  }
