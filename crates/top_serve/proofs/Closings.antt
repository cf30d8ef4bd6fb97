-- The columns as they are judged at the close.
use Rattle.std.proofs.Common.{◌≡◌, ◌≢◌, ◌⊎◌, ◌<◌, ◌≤◌, inl, inr, ℕ, zero, suc, List, [], ◌∷◌, length, Bool, true, false, Option, option_map, Some, None, slice_get, slice_set, refl, sym, ◌∙◌, ap, subst, arith}
use Rattle.std.specs.Prelude.{MatchBool, cond, count_by}
use Rattle.std.proofs.lemmas.Bool.{cases_Bool, cases_eq, cases_lt, cond-false, cond-true}
use Rattle.std.proofs.lemmas.List.{length-set}
use Rattle.std.proofs.lemmas.List.Sums.{sum_by-cons}
use Rattle.std.proofs.lemmas.Option.{slice_get_past}
use Rattle.lay_core.specs.Layout.{Shape}
use Rattle.eng_cols.specs.declared.column.Column.{Column}
use Rattle.eng_cols.specs.declared.column.Column.TheVariants as set
use Rattle.eng_cols.specs.Cols.{ColumnState, Live, Dead, Filling, Spread, AtMostOne, column_with, is_done, is_done_on, is_filling, is_set_filling, is_set_spread, is_spread, passes}
use Rattle.eng_cols.specs.Changes.{killed}
use Rattle.eng_cols.specs.Seats.{HasStripeLeft, IsWhole}
use Rattle.eng_cols.specs.Stripes.{leading}
use Rattle.eng_cols.proofs.Lists.{get_set_same, get_set_other}
use Rattle.eng_events.specs.Closed.{AreColumns}
use Rattle.eng_array.specs.declared.start.Start.{Start}
use Rattle.eng_array.specs.declared.start.Start.TheVariants as start
use Rattle.top_close.specs.Closes.{SpreadEnds, FillingEnds, ClosesAs}
use Rattle.top_serve.specs.Judged.{judged, IsFilledJudged, IsJudged, JudgedAt, JudgesAt}
use Rattle.top_serve.specs.Served.{IsKeptAs}
use Rattle.top_serve.proofs.Columns.{SetIn}
use Rattle.top_serve.proofs.Alike.{bare, kind, kind-spread}
use Rattle.eng_cols.proofs.Words.{all_done}

no : {A : Type 0} → true ≡ false → A
no h = absurd (let u : ⊥ = cc in u)

all-is-done : (n s : ℕ) → s < n → is_done (all_done n) s ≡ true
all-is-done zero s lt = absurd (omega (arith, lt))
all-is-done (suc n) zero lt = refl
all-is-done (suc n) (suc s) lt = all-is-done n s (omega (arith, lt))

-- a column that is whole has no stripe left
pub not-whole : {A : Type 0} (y : Shape) (cols : List ColumnState) (c : ℕ) → IsWhole y cols c → HasStripeLeft y cols c → A
not-whole y cols c whole left = no (sym (whole left.stripe left.within left.of_column) ∙ left.left)

-- ## Columns that are set

-- a spread one is whole
pub set-whole : (y : Shape) (cols : List ColumnState) (c : ℕ) (done : List Bool) → slice_get cols c ≡ Some (Spread done) → SetIn y.stripes (Some (Spread done)) → IsWhole y cols c
set-whole y cols c done e h s sw of = ap (λ z. is_done_on z s) e ∙ (ap (λ l. is_done l s) (h (Spread done) refl) ∙ all-is-done y.stripes s sw)

-- and stays
spread-set : (y : Shape) (cols : List ColumnState) (c : ℕ) (o : Option ColumnState) → slice_get cols c ≡ o → SetIn y.stripes o → SpreadEnds y cols c o o
spread-set y cols c (Some (Live device)) e h = refl
spread-set y cols c (Some Dead) e h = refl
spread-set y cols c (Some (Filling device done)) e h = refl
spread-set y cols c (Some (Spread done)) e h = inl (set-whole y cols c done e h, refl)
spread-set y cols c None e h = refl

-- ## Columns that aren't filling

unfilled-ends : (y : Shape) (cols : List ColumnState) (c n : ℕ) (o : Option ColumnState) → passes is_filling o ≡ false → FillingEnds y cols c o (option_map (column_with n) o)
unfilled-ends y cols c n (Some (Live device)) h = refl
unfilled-ends y cols c n (Some Dead) h = refl
unfilled-ends y cols c n (Some (Filling device done)) h = no h
unfilled-ends y cols c n (Some (Spread done)) h = refl
unfilled-ends y cols c n None h = refl

-- ## One that is filling

judged-ends : (y : Shape) (cols : List ColumnState) (c : ℕ) (whole : Bool) → MatchBool whole (IsWhole y cols c) (HasStripeLeft y cols c) → (o : Option ColumnState) → passes is_filling o ≡ true → FillingEnds y cols c o (Some (judged whole (option_map (column_with (leading y cols c)) o)))
judged-ends y cols c true m (Some (Filling device done)) h = inl (m, refl)
judged-ends y cols c false m (Some (Filling device done)) h = inr (m, refl)
judged-ends y cols c whole m (Some (Live device)) h = no (sym h)
judged-ends y cols c whole m (Some Dead) h = no (sym h)
judged-ends y cols c whole m (Some (Spread done)) h = no (sym h)
judged-ends y cols c whole m None h = no (sym h)

there-filling : (o : Option ColumnState) → passes is_filling o ≡ true → (x : ColumnState) × (o ≡ Some x)
there-filling (Some x) h = (x, refl)
there-filling None h = no (sym h)

-- ## One that is spread, or dead

Spreads : Option ColumnState → Type 0
Spreads o = (kind o ≡ Some set.Spread) ⊎ (o ≡ Some Dead)

spreads-whole : (y : Shape) (cols : List ColumnState) (c : ℕ) → IsWhole y cols c → (o : Option ColumnState) → Spreads o → SpreadEnds y cols c o o
unfolding Spreads
spreads-whole y cols c m o (inl h) = let f = kind-spread o h in subst (λ z. SpreadEnds y cols c z z) (sym f.1) (inl (m, refl))
spreads-whole y cols c m o (inr h) = subst (λ z. SpreadEnds y cols c z z) (sym h) refl

spreads-left : (y : Shape) (cols : List ColumnState) (c : ℕ) → HasStripeLeft y cols c → (o : Option ColumnState) → Spreads o → SpreadEnds y cols c o (Some Dead)
unfolding Spreads
spreads-left y cols c m o (inl h) = let f = kind-spread o h in subst (λ z. SpreadEnds y cols c z (Some Dead)) (sym f.1) (inr (m, refl))
spreads-left y cols c m o (inr h) = subst (λ z. SpreadEnds y cols c z (Some Dead)) (sym h) refl

there : (o : Option ColumnState) → Spreads o → (x : ColumnState) × (o ≡ Some x)
unfolding Spreads
there o (inl h) = let f = kind-spread o h in (Spread f.0, f.1)
there o (inr h) = (Dead, h)

judged-kept : (y : Shape) (cols : List ColumnState) (c n : ℕ) (o : Option ColumnState) → Spreads o → FillingEnds y cols c o (Some (judged true (option_map (column_with n) o)))
unfolding Spreads
judged-kept y cols c n o (inl h) = let f = kind-spread o h in subst (λ z. FillingEnds y cols c z (Some (judged true (option_map (column_with n) z)))) (sym f.1) refl
judged-kept y cols c n o (inr h) = subst (λ z. FillingEnds y cols c z (Some (judged true (option_map (column_with n) z)))) (sym h) refl

judged-gone : (n : ℕ) (o : Option ColumnState) → Spreads o → judged false (option_map (column_with n) o) ≡ set.Dead
unfolding Spreads
judged-gone n o (inl h) = let f = kind-spread o h in ap (λ z. judged false (option_map (column_with n) z)) f.1
judged-gone n o (inr h) = ap (λ z. judged false (option_map (column_with n) z)) h

-- ## All columns

-- what has to be so of the columns as they are judged
abbrev pub IsReady : Shape → List ColumnState → Option Start → Type 0
IsReady y now None = (c : ℕ) → SetIn y.stripes (slice_get now c)
IsReady y now (Some (start.Fill k device most)) = (c : ℕ) → SetIn y.stripes (slice_get now c)
IsReady y now (Some (start.Resume k most)) = (c : ℕ) → SetIn y.stripes (slice_get now c)
IsReady y now (Some (start.Spread k)) = ((c : ℕ) → c ≢ k → SetIn y.stripes (slice_get now c)) × ((c : ℕ) → passes is_filling (slice_get now c) ≡ false) × ((kind (slice_get now k) ≡ Some set.Spread) ⊎ (slice_get now k ≡ Some Dead))

module _ (y : Shape) (now : List ColumnState) (were closed : List Column) (read : AreColumns y now were) where
  pub were-at : (c : ℕ) → slice_get were c ≡ option_map (column_with (leading y now c)) (slice_get now c)
  were-at c = elim (cases_lt c (length now)) [
    | inl lt ↦ sym (read.each c lt)
    | inr past ↦ slice_get_past were c (let n = read.count in omega (arith, past, n)) ∙ sym (ap (option_map (column_with (leading y now c))) (slice_get_past now c (omega (arith, past))))
  ]

  -- one that was judged, and the others
  judged-here : (k : ℕ) (whole : Bool) → closed ≡ slice_set were k (judged whole (slice_get were k)) → (x : ColumnState) → slice_get now k ≡ Some x
      → slice_get closed k ≡ Some (judged whole (option_map (column_with (leading y now k)) (slice_get now k)))
  judged-here k whole is x at =
      ap (λ (l : List Column). slice_get l k) is
      ∙ (get_set_same were k (column_with (leading y now k) x) (judged whole (slice_get were k)) (were-at k ∙ ap (option_map (column_with (leading y now k))) at)
      ∙ ap (λ o. Some (judged whole o)) (were-at k))

  judged-other : (k : ℕ) (x : Column) → closed ≡ slice_set were k x → (c : ℕ) → c ≢ k → slice_get closed c ≡ option_map (column_with (leading y now c)) (slice_get now c)
  judged-other k x is c ne = ap (λ (l : List Column). slice_get l c) is ∙ (get_set_other were k c x ne ∙ were-at c)

  -- where the one that is filling was judged
  closes-filled : ((c : ℕ) → SetIn y.stripes (slice_get now c)) → AtMostOne is_filling now → length now ≡ y.columns → IsFilledJudged y now were closed → ClosesAs y now closed
  closes-filled settled one many how = record {
    mid = now;
    count = refl;
    spread = λ c. spread-set y now c (slice_get now c) refl (settled c);
    filling = λ c. by how c;
  }
    where
      other : (k c : ℕ) → passes is_filling (slice_get now k) ≡ true → c ≢ k → (b : Bool) → passes is_filling (slice_get now c) ≡ b → passes is_filling (slice_get now c) ≡ false
      other k c fills ne false is = is
      other k c fills ne true is = absurd (ne (one c k is fills))

      past : (c : ℕ) → ((j : ℕ) → j < y.columns → passes is_filling (slice_get now j) ≡ false) → passes is_filling (slice_get now c) ≡ false
      past c none = elim (cases_lt c y.columns) [
        | inl lt ↦ none c lt
        | inr over ↦ ap (passes is_filling) (slice_get_past now c (omega (arith, over, many)))
      ]

      by : IsFilledJudged y now were closed → (c : ℕ) → FillingEnds y now c (slice_get now c) (slice_get closed c)
      by (inl (k, lt, fills, (whole, m, is))) c = elim (cases_eq c k) [
        | inl e ↦
            let x = there-filling (slice_get now k) fills in
            subst (λ j. FillingEnds y now j (slice_get now j) (slice_get closed j)) (sym e)
            (subst (FillingEnds y now k (slice_get now k)) (sym (judged-here k whole is x.0 x.1)) (judged-ends y now k whole m (slice_get now k) fills))
        | inr ne ↦
            subst (FillingEnds y now c (slice_get now c)) (sym (judged-other k (judged whole (slice_get were k)) is c ne))
            (unfilled-ends y now c (leading y now c) (slice_get now c) (other k c fills ne (passes is_filling (slice_get now c)) refl))
      ]
      by (inr (none, is)) c =
          subst (FillingEnds y now c (slice_get now c)) (sym (ap (λ (l : List Column). slice_get l c) is ∙ were-at c))
          (unfilled-ends y now c (leading y now c) (slice_get now c) (past c none))

  -- where the one that was to be spread was judged, beside which none is filling
  closes-spread : (k : ℕ) → ((c : ℕ) → c ≢ k → SetIn y.stripes (slice_get now c)) → ((c : ℕ) → passes is_filling (slice_get now c) ≡ false) → ((kind (slice_get now k) ≡ Some set.Spread) ⊎ (slice_get now k ≡ Some Dead)) → JudgedAt y now k were closed → ClosesAs y now closed
  unfolding Spreads
  closes-spread k settled none spreads (whole, match, is) = by whole match is
    where
      it : (x : ColumnState) × (slice_get now k ≡ Some x)
      it = there (slice_get now k) spreads

      others : (cols : List ColumnState) (whole : Bool) → closed ≡ slice_set were k (judged whole (slice_get were k)) → (c : ℕ) → c ≢ k → FillingEnds y cols c (slice_get now c) (slice_get closed c)
      others cols whole is c ne = subst (FillingEnds y cols c (slice_get now c)) (sym (judged-other k (judged whole (slice_get were k)) is c ne)) (unfilled-ends y cols c (leading y now c) (slice_get now c) (none c))

      by : (whole : Bool) → MatchBool whole (IsWhole y now k) (HasStripeLeft y now k) → closed ≡ slice_set were k (judged whole (slice_get were k)) → ClosesAs y now closed
      by true m is = record {
        mid = now;
        count = refl;
        spread = λ c. elim (cases_eq c k) [
          | inl e ↦ subst (λ j. SpreadEnds y now j (slice_get now j) (slice_get now j)) (sym e) (spreads-whole y now k m (slice_get now k) spreads)
          | inr ne ↦ spread-set y now c (slice_get now c) refl (settled c ne)
        ];
        filling = λ c. elim (cases_eq c k) [
          | inl e ↦ subst (λ j. FillingEnds y now j (slice_get now j) (slice_get closed j)) (sym e)
              (subst (FillingEnds y now k (slice_get now k)) (sym (judged-here k true is it.0 it.1)) (judged-kept y now k (leading y now k) (slice_get now k) spreads))
          | inr ne ↦ others now true is c ne
        ];
      }
      by false m is =
          let gone : slice_get (killed now k) k ≡ Some Dead = get_set_same now k it.0 Dead it.1 in
          let dead : slice_get closed k ≡ Some set.Dead = judged-here k false is it.0 it.1 ∙ ap (λ x. Some x) (judged-gone (leading y now k) (slice_get now k) spreads) in
          record {
            mid = killed now k;
            count = length-set now k Dead;
            spread = λ c. elim (cases_eq c k) [
              | inl e ↦ subst (λ j. SpreadEnds y now j (slice_get now j) (slice_get (killed now k) j)) (sym e) (subst (SpreadEnds y now k (slice_get now k)) (sym gone) (spreads-left y now k m (slice_get now k) spreads))
              | inr ne ↦ subst (SpreadEnds y now c (slice_get now c)) (sym (get_set_other now k c Dead ne)) (spread-set y now c (slice_get now c) refl (settled c ne))
            ];
            filling = λ c. elim (cases_eq c k) [
              | inl e ↦ subst (λ j. FillingEnds y (killed now k) j (slice_get (killed now k) j) (slice_get closed j)) (sym e) (subst (λ o. FillingEnds y (killed now k) k o (slice_get closed k)) (sym gone) dead)
              | inr ne ↦ subst (λ o. FillingEnds y (killed now k) c o (slice_get closed c)) (sym (get_set_other now k c Dead ne)) (others (killed now k) false is c ne)
            ];
          }

  pub closes-judged : (how : Option Start) → IsJudged y now how were closed → AtMostOne is_filling now → length now ≡ y.columns → IsReady y now how → ClosesAs y now closed
  closes-judged None is one many ready = closes-filled ready one many is
  closes-judged (Some (start.Fill k device most)) is one many ready = closes-filled ready one many is
  closes-judged (Some (start.Resume k most)) is one many ready = closes-filled ready one many is
  closes-judged (Some (start.Spread k)) is one many (settled, none, spreads) = closes-spread k settled none spreads is

  filled-count : IsFilledJudged y now were closed → length closed ≡ length were
  filled-count (inl (k, lt, fills, (whole, m, is))) = ap (λ (l : List Column). length l) is ∙ length-set were k _
  filled-count (inr (none, is)) = ap (λ (l : List Column). length l) is

  pub judged-count : (how : Option Start) → IsJudged y now how were closed → length closed ≡ length were
  judged-count None is = filled-count is
  judged-count (Some (start.Fill k device most)) is = filled-count is
  judged-count (Some (start.Resume k most)) is = filled-count is
  judged-count (Some (start.Spread k)) (whole, m, is) = ap (λ (l : List Column). length l) is ∙ length-set were k _

-- ## What becomes of each column

-- a column that was this one, and hasn't died, is kept as that, or it was spread and a stripe of it is left
abbrev pub Ends : Shape → List ColumnState → ℕ → Option Column → Option Column → Type 0
Ends y now c was kept = IsKeptAs was kept ⊎ ((was ≡ Some set.Spread) × (kept ≡ Some set.Dead) × HasStripeLeft y now c)

module _ (y : Shape) (now : List ColumnState) (closed : List Column) (closes : ClosesAs y now closed) (c : ℕ) where
  kept-live : (d : ℕ) (was : Option Column) → Some (set.Live d) ≡ option_map bare was → slice_get closed c ≡ Some (set.Live d) → IsKeptAs was (slice_get closed c)
  kept-live d (Some (set.Live e)) same is = let z : d ≡ e = cc in is ∙ ap (λ v. Some (set.Live v)) z
  kept-live d (Some set.Dead) same is = absurd (let u : ⊥ = cc in u)
  kept-live d (Some (set.Filling e n)) same is = absurd (let u : ⊥ = cc in u)
  kept-live d (Some set.Spread) same is = absurd (let u : ⊥ = cc in u)
  kept-live d None same is = absurd (let u : ⊥ = cc in u)

  kept-dead : (was : Option Column) → Some set.Dead ≡ option_map bare was → slice_get closed c ≡ Some set.Dead → IsKeptAs was (slice_get closed c)
  kept-dead (Some set.Dead) same is = is
  kept-dead (Some (set.Live e)) same is = absurd (let u : ⊥ = cc in u)
  kept-dead (Some (set.Filling e n)) same is = absurd (let u : ⊥ = cc in u)
  kept-dead (Some set.Spread) same is = absurd (let u : ⊥ = cc in u)
  kept-dead None same is = absurd (let u : ⊥ = cc in u)

  kept-filling : (d : ℕ) (was : Option Column) → Some (set.Filling d 0) ≡ option_map bare was → (slice_get closed c ≡ Some (set.Live d)) ⊎ ((n : ℕ) × (slice_get closed c ≡ Some (set.Filling d n))) → IsKeptAs was (slice_get closed c)
  kept-filling d (Some (set.Filling e m)) same (inl is) = let z : d ≡ e = cc in inl (is ∙ ap (λ v. Some (set.Live v)) z)
  kept-filling d (Some (set.Filling e m)) same (inr (n, is)) = let z : d ≡ e = cc in inr (n, is ∙ ap (λ v. Some (set.Filling v n)) z)
  kept-filling d (Some (set.Live e)) same is = absurd (let u : ⊥ = cc in u)
  kept-filling d (Some set.Dead) same is = absurd (let u : ⊥ = cc in u)
  kept-filling d (Some set.Spread) same is = absurd (let u : ⊥ = cc in u)
  kept-filling d None same is = absurd (let u : ⊥ = cc in u)

  kept-spread : (was : Option Column) → Some set.Spread ≡ option_map bare was → (was ≡ Some set.Spread) × (slice_get closed c ≡ Some set.Spread → IsKeptAs was (slice_get closed c))
  kept-spread (Some set.Spread) same = (refl, λ is. is)
  kept-spread (Some (set.Live e)) same = absurd (let u : ⊥ = cc in u)
  kept-spread (Some set.Dead) same = absurd (let u : ⊥ = cc in u)
  kept-spread (Some (set.Filling e n)) same = absurd (let u : ⊥ = cc in u)
  kept-spread None same = absurd (let u : ⊥ = cc in u)

  kept-none : (was : Option Column) → None ≡ option_map bare was → slice_get closed c ≡ None → IsKeptAs was (slice_get closed c)
  kept-none None same is = is
  kept-none (Some x) same is = absurd (let u : ⊥ = cc in u)

  -- by both steps of the close
  ends-by : (o m : Option ColumnState) (was : Option Column) → kind o ≡ option_map bare was → SpreadEnds y now c o m → FillingEnds y closes.mid c m (slice_get closed c) → Ends y now c was (slice_get closed c)
  ends-by (Some (Live d)) m was same s f = inl (kept-live d was same (subst (λ z. FillingEnds y closes.mid c z (slice_get closed c)) s f))
  ends-by (Some Dead) m was same s f = inl (kept-dead was same (subst (λ z. FillingEnds y closes.mid c z (slice_get closed c)) s f))
  ends-by (Some (Filling d done)) m was same s f = inl (kept-filling d was same (by (subst (λ z. FillingEnds y closes.mid c z (slice_get closed c)) s f)))
    where
      by : FillingEnds y closes.mid c (Some (Filling d done)) (slice_get closed c) → (slice_get closed c ≡ Some (set.Live d)) ⊎ ((n : ℕ) × (slice_get closed c ≡ Some (set.Filling d n)))
      by (inl h) = inl h.1
      by (inr h) = inr (leading y closes.mid c, h.1)
  ends-by (Some (Spread done)) m was same (inl s) f = inl ((kept-spread was same).1 (subst (λ z. FillingEnds y closes.mid c z (slice_get closed c)) s.1 f))
  ends-by (Some (Spread done)) m was same (inr s) f = inr ((kept-spread was same).0, subst (λ z. FillingEnds y closes.mid c z (slice_get closed c)) s.1 f, s.0)
  ends-by None m was same s f = inl (kept-none was same (subst (λ z. FillingEnds y closes.mid c z (slice_get closed c)) s f))

  pub ends-as : (was : Option Column) → kind (slice_get now c) ≡ option_map bare was → Ends y now c was (slice_get closed c)
  ends-as was same = ends-by (slice_get now c) (slice_get closes.mid c) was same (closes.spread c) (closes.filling c)

  -- one that is filling was so
  was-filling : (o m : Option ColumnState) → SpreadEnds y now c o m → FillingEnds y closes.mid c m (slice_get closed c) → passes is_set_filling (slice_get closed c) ≡ true → passes is_filling o ≡ true
  was-filling (Some (Filling d done)) m s f h = refl
  was-filling (Some (Live d)) m s f h = no (sym h ∙ ap (passes is_set_filling) (subst (λ z. FillingEnds y closes.mid c z (slice_get closed c)) s f))
  was-filling (Some Dead) m s f h = no (sym h ∙ ap (passes is_set_filling) (subst (λ z. FillingEnds y closes.mid c z (slice_get closed c)) s f))
  was-filling (Some (Spread done)) m (inl s) f h = no (sym h ∙ ap (passes is_set_filling) (subst (λ z. FillingEnds y closes.mid c z (slice_get closed c)) s.1 f))
  was-filling (Some (Spread done)) m (inr s) f h = no (sym h ∙ ap (passes is_set_filling) (subst (λ z. FillingEnds y closes.mid c z (slice_get closed c)) s.1 f))
  was-filling None m s f h = no (sym h ∙ ap (passes is_set_filling) (subst (λ z. FillingEnds y closes.mid c z (slice_get closed c)) s f))

  pub filling-before : passes is_set_filling (slice_get closed c) ≡ true → passes is_filling (slice_get now c) ≡ true
  filling-before h = was-filling (slice_get now c) (slice_get closes.mid c) (closes.spread c) (closes.filling c) h

  -- and one that is spread was so
  was-spread : (o m : Option ColumnState) → SpreadEnds y now c o m → FillingEnds y closes.mid c m (slice_get closed c) → passes is_set_spread (slice_get closed c) ≡ true → passes is_spread o ≡ true
  was-spread (Some (Spread done)) m s f h = refl
  was-spread (Some (Live d)) m s f h = no (sym h ∙ ap (passes is_set_spread) (subst (λ z. FillingEnds y closes.mid c z (slice_get closed c)) s f))
  was-spread (Some Dead) m s f h = no (sym h ∙ ap (passes is_set_spread) (subst (λ z. FillingEnds y closes.mid c z (slice_get closed c)) s f))
  was-spread (Some (Filling d done)) m s f h = by (subst (λ z. FillingEnds y closes.mid c z (slice_get closed c)) s f)
    where
      by : FillingEnds y closes.mid c (Some (Filling d done)) (slice_get closed c) → false ≡ true
      by (inl w) = no (sym h ∙ ap (passes is_set_spread) w.1)
      by (inr w) = no (sym h ∙ ap (passes is_set_spread) w.1)
  was-spread None m s f h = no (sym h ∙ ap (passes is_set_spread) (subst (λ z. FillingEnds y closes.mid c z (slice_get closed c)) s f))

  pub spread-before : passes is_set_spread (slice_get closed c) ≡ true → passes is_spread (slice_get now c) ≡ true
  spread-before h = was-spread (slice_get now c) (slice_get closes.mid c) (closes.spread c) (closes.filling c) h

-- so at most one is filling, and at most one spread
pub closes-one : (y : Shape) (now : List ColumnState) (closed : List Column) → ClosesAs y now closed → AtMostOne is_filling now → AtMostOne is_set_filling closed
closes-one y now closed closes one c k h g = one c k (filling-before y now closed closes c h) (filling-before y now closed closes k g)

pub closes-one-spread : (y : Shape) (now : List ColumnState) (closed : List Column) → ClosesAs y now closed → AtMostOne is_spread now → AtMostOne is_set_spread closed
closes-one-spread y now closed closes one c k h g = one c k (spread-before y now closed closes c h) (spread-before y now closed closes k g)

-- ## Counts

pub none-count : {X : Type 0} (p : X → Bool) (xs : List X) → ((c : ℕ) → passes p (slice_get xs c) ≡ false) → count_by p xs ≡ 0
none-count p [] none = refl
none-count {X} p (x ∷ xs) none = omega (arith, none-count p xs (λ c. none (suc c)), sum_by-cons (λ (z : X). cond (p z) 1 0) x xs, cond-false {A = ℕ} (p x) 1 0 (none 0))

-- of elements of which at most one passes no more are counted
pub one-count : {X : Type 0} (p : X → Bool) (xs : List X) → AtMostOne p xs → count_by p xs ≤ 1
one-count p [] one = omega arith
one-count {X} p (x ∷ xs) one = elim (cases_Bool (p x)) [
  | inr not ↦ omega (arith, one-count p xs (λ c k h g. let e = one (suc c) (suc k) h g in omega (arith, e)), sum_by-cons (λ (z : X). cond (p z) 1 0) x xs, cond-false {A = ℕ} (p x) 1 0 not)
  | inl is ↦ omega (arith, none-count p xs (λ c. rest is c (passes p (slice_get xs c)) refl), sum_by-cons (λ (z : X). cond (p z) 1 0) x xs, cond-true {A = ℕ} (p x) 1 0 is)
]
  where
    rest : p x ≡ true → (c : ℕ) (b : Bool) → passes p (slice_get xs c) ≡ b → passes p (slice_get xs c) ≡ false
    rest is c false h = h
    rest is c true h = absurd (let e = one 0 (suc c) is h in let u : ⊥ = omega (arith, e) in u)

-- ## Which column is judged

pub judged-as : (y : Shape) (states : List ColumnState) (how : Option Start) (k : ℕ) (were closed : List Column) → JudgesAt y states how (Some k) → JudgedAt y states k were closed → IsJudged y states how were closed
judged-as y states None k were closed at is = inl (k, at.0, at.1, is)
judged-as y states (Some (start.Fill c device most)) k were closed at is = inl (k, at.0, at.1, is)
judged-as y states (Some (start.Resume c most)) k were closed at is = inl (k, at.0, at.1, is)
judged-as y states (Some (start.Spread c)) k were closed at is = let e : k ≡ c = cc at in subst (λ j. JudgedAt y states j were closed) e is

pub judged-none : (y : Shape) (states : List ColumnState) (how : Option Start) (were closed : List Column) → JudgesAt y states how None → closed ≡ were → IsJudged y states how were closed
judged-none y states None were closed at is = inr (at, is)
judged-none y states (Some (start.Fill c device most)) were closed at is = inr (at, is)
judged-none y states (Some (start.Resume c most)) were closed at is = inr (at, is)
judged-none y states (Some (start.Spread c)) were closed at is = absurd (let u : ⊥ = cc at in u)
