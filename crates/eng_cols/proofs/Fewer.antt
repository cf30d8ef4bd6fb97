-- Columns on which fewer stripes are done bring no unit back, and so do columns as they are read.
use Rattle.std.proofs.Common.{◌≡◌, ◌⊎◌, ◌<◌, ◌≤◌, ◌+◌, inl, inr, ℕ, zero, suc, List, [], ◌∷◌, Bool, true, false, Option, Some, None, slice_get, refl, sym, ap, ap₂, ◌∙◌, arith}
use Rattle.std.specs.Prelude.{◌==◌, ◌&&◌, ◌||◌, option_map, if◌then◌else◌, nat_lt, slice_set}
use Rattle.std.proofs.lemmas.Bool.{cases_Bool, eq-eqb, and_parts, and_from}
use Rattle.std.proofs.lemmas.Option.{slice_get-map}
use Rattle.lay_core.specs.declared.place.Place.{Place}
use Rattle.lay_core.specs.Layout.{Shape}
use Rattle.eng_cols.specs.declared.column.Column.{Column}
use Rattle.eng_cols.specs.declared.column.Column.TheVariants as column
use Rattle.eng_cols.specs.declared.spot.Spot.{Spot}
use Rattle.eng_cols.specs.Cols.{ColumnState, Live, Dead, Filling, Spread, AtMostOne, is_done, is_done_on, is_set_filling, is_set_spread, is_spread, passes, state_set}
use Rattle.eng_cols.specs.Seats.{stands_for, spare_stands, available_on, is_available, open_on, seat_on, seat, IsStripeOf, IsWhole, is_place_on}
use Rattle.eng_cols.specs.Stripes.{are_spread, done_set, filled_from, filled_in, first_done, is_stripe_by, is_stripe_of, leading, spreads, states_of}
use Rattle.eng_cols.specs.Fewer.{IsFewerOn, AreFewer, IsReadOn, AreRead, DieApart}
use Rattle.eng_cols.proofs.Counting.{filled-all, filled-step, leading-is, stripe-of, stripe-same}
use Rattle.eng_cols.proofs.Leading.{all-led, each-done, first-marked, led-all, led-done, led-few, led-first}
use Rattle.eng_cols.proofs.Wholes.{lies-on}
use Rattle.eng_cols.proofs.Words.{is_led, spare_open, first_or}
use Rattle.lay_core.specs.Touched.{count_below}

no : {A : Type 0} → false ≡ true → A
no h = absurd (let u : ⊥ = cc in u)

or-second : (a b : Bool) → b ≡ true → (a || b) ≡ true
or-second true b h = refl
or-second false b h = h

-- ## Fewer done stripes

-- a column that stands for a stripe has a device, and the stripe is done there
stands-open : (o : Option ColumnState) (s : ℕ) (p : Place) → stands_for o s ≡ true → (at : Spot) × (open_on o p ≡ Some at)
stands-open (Some (Live device)) s p h = (record { column = p.column; device = device; row = p.row }, refl)
stands-open (Some (Filling device done)) s p h = (record { column = p.column; device = device; row = p.row }, refl)
stands-open (Some Dead) s p h = no h
stands-open (Some (Spread done)) s p h = no h
stands-open None s p h = no h

stands-done : (o : Option ColumnState) (s : ℕ) → stands_for o s ≡ true → is_done_on o s ≡ true
stands-done (Some (Live device)) s h = refl
stands-done (Some (Filling device done)) s h = h
stands-done (Some Dead) s h = h
stands-done (Some (Spread done)) s h = no h
stands-done None s h = h

-- and the other way round
done-stands : (o : Option ColumnState) (s : ℕ) (p : Place) (at : Spot) → open_on o p ≡ Some at → is_done_on o s ≡ true → stands_for o s ≡ true
done-stands (Some (Live device)) s p at is h = refl
done-stands (Some (Filling device done)) s p at is h = h
done-stands (Some Dead) s p at is h = h
done-stands (Some (Spread done)) s p at is h = let z : None ≡ Some at = is in absurd (let u : ⊥ = cc in u)
done-stands None s p at is h = h

module _ (y : Shape) where
  -- an available unit's own column stands for the stripe, or is spread, and its spare place stands for it
  split : (cols : List ColumnState) (o : Option ColumnState) (s : ℕ) → available_on y cols o s ≡ true
      → (stands_for o s ≡ true) ⊎ ((passes is_spread o ≡ true) × ((is_done_on o s ≡ true) × (spare_stands cols (y.spare s) s ≡ true)))
  split cols (Some (Live device)) s h = inl refl
  split cols (Some (Filling device done)) s h = inl h
  split cols (Some (Spread done)) s h = let both = and_parts (is_done done s) (spare_stands cols (y.spare s) s) h in inr (refl, (both.0, both.1))
  split cols (Some Dead) s h = no h
  split cols None s h = no h

  standing : (cols : List ColumnState) (o : Option ColumnState) (p : Place) (s : ℕ) → stands_for o s ≡ true → (available_on y cols o s ≡ true) × (seat_on y cols o p s ≡ open_on o p)
  standing cols (Some (Live device)) p s h = (refl, refl)
  standing cols (Some (Filling device done)) p s h = (h, refl)
  standing cols (Some (Spread done)) p s h = no h
  standing cols (Some Dead) p s h = no h
  standing cols None p s h = no h

  spreading : (cols : List ColumnState) (o : Option ColumnState) (p : Place) (s : ℕ) → passes is_spread o ≡ true → is_done_on o s ≡ true → spare_stands cols (y.spare s) s ≡ true
      → (available_on y cols o s ≡ true) × (seat_on y cols o p s ≡ spare_open cols (y.spare s))
  spreading cols (Some (Spread done)) p s e d h = (and_from (is_done done s) (spare_stands cols (y.spare s) s) d h, refl)
  spreading cols (Some (Live device)) p s e d h = no e
  spreading cols (Some (Filling device done)) p s e d h = no e
  spreading cols (Some Dead) p s e d h = no e
  spreading cols None p s e d h = no e

module _ (y : Shape) (old new : List ColumnState) (fewer : AreFewer y old new) where
  -- a column that stands for a stripe of its stood for it, on the same device
  stood : (c s : ℕ) (p : Place) → s < y.stripes → IsStripeOf y old c s → stands_for (slice_get new c) s ≡ true
      → (stands_for (slice_get old c) s ≡ true) × (open_on (slice_get new c) p ≡ open_on (slice_get old c) p)
  stood c s p sw of h =
      let is = stands-open (slice_get new c) s p h in
      let was = (fewer c).device p is.0 is.1 in
      (done-stands (slice_get old c) s p is.0 was ((fewer c).done s sw of (stands-done (slice_get new c) s h)), is.1 ∙ sym was)

  spare-stood : (s i : ℕ) (o : Option Place) → s < y.stripes → i < y.width → are_spread old (y.place s i).column ≡ true → y.spare s ≡ o → spare_stands new o s ≡ true
      → (spare_stands old o s ≡ true) × (spare_open new o ≡ spare_open old o)
  spare-stood s i None sw iw spread e h = no h
  spare-stood s i (Some p) sw iw spread e h =
      stood p.column s p sw (i, iw, or-second (p.column == (y.place s i).column) _ (and_from _ _ spread (ap (λ o. is_place_on o p.column) e ∙ eq-eqb p.column p.column refl))) h

  pub none-back : (s i : ℕ) → s < y.stripes → i < y.width → is_available y new s i ≡ true → (is_available y old s i ≡ true) × (seat y new s i ≡ seat y old s i)
  none-back s i sw iw h = elim (split y new (slice_get new c) s h) [
    | inl stands ↦
        let both = stood c s (y.place s i) sw on stands in
        let now = standing y new (slice_get new c) (y.place s i) s stands in
        let was = standing y old (slice_get old c) (y.place s i) s both.0 in
        (was.0, now.1 ∙ both.1 ∙ sym was.1)
    | inr w ↦
        let spread = (fewer c).spread w.0 in
        let both = spare-stood s i (y.spare s) sw iw spread refl w.1.1 in
        let now = spreading y new (slice_get new c) (y.place s i) s w.0 w.1.0 w.1.1 in
        let was = spreading y old (slice_get old c) (y.place s i) s spread ((fewer c).done s sw on w.1.0) both.0 in
        (was.0, now.1 ∙ both.1 ∙ sym was.1)
  ]
    where
      c : ℕ
      c = (y.place s i).column

      on : IsStripeOf y old (y.place s i).column s
      on = lies-on y old (y.place s i).column s i iw refl

-- ## Columns as they are set

states-get : (y : Shape) (columns : List Column) (c : ℕ) → slice_get (states_of y columns) c ≡ option_map (state_set y.stripes (filled_in y columns)) (slice_get columns c)
states-get y columns c = slice_get-map (state_set y.stripes (filled_in y columns)) columns c

pub states-at : (y : Shape) (columns : List Column) (c : ℕ) (x : Column) → slice_get columns c ≡ Some x → slice_get (states_of y columns) c ≡ Some (state_set y.stripes (filled_in y columns) x)
states-at y columns c x is = states-get y columns c ∙ ap (option_map (state_set y.stripes (filled_in y columns))) is

pub states-spread : (y : Shape) (columns : List Column) (k : ℕ) → are_spread (states_of y columns) k ≡ spreads columns k
states-spread y columns k = ap (passes is_spread) (states-get y columns k) ∙ go (slice_get columns k)
  where
    go : (o : Option Column) → passes is_spread (option_map (state_set y.stripes (filled_in y columns)) o) ≡ passes is_set_spread o
    go (Some (column.Live device)) = refl
    go (Some column.Dead) = refl
    go (Some (column.Filling device done)) = refl
    go (Some column.Spread) = refl
    go None = refl

module _ (y : Shape) (spread : ℕ → Bool) where
  -- the first column that is filling, so many further on
  found : (columns : List Column) (c k : ℕ) (device m : ℕ) → ((j : ℕ) → j < k → passes is_set_filling (slice_get columns j) ≡ false) → slice_get columns k ≡ Some (column.Filling device m)
      → filled_from y spread columns c ≡ first_done (is_stripe_by y spread (c + k)) m y.stripes y.stripes
  found [] c k device m before is = let z : None ≡ Some (column.Filling device m) = is in absurd (let u : ⊥ = cc in u)
  found (x ∷ columns) c zero device m before is =
      let same : x ≡ column.Filling device m = cc in
      let here : c + 0 ≡ c = omega arith in
      filled-step y spread x columns c ∙ ap (λ z. first_or y spread c (done_set z) (filled_from y spread columns (c + 1))) same
      ∙ ap (λ k. first_done (is_stripe_by y spread k) m y.stripes y.stripes) (sym here)
  found (x ∷ columns) c (suc k) device m before is =
      let next : c + 1 + k ≡ c + suc k = omega arith in
      filled-step y spread x columns c ∙ ap (λ o. first_or y spread c o (filled_from y spread columns (c + 1))) (unfilled x (before 0 (omega arith)))
      ∙ found columns (c + 1) k device m (λ j lt. before (suc j) (omega (arith, lt))) is
      ∙ ap (λ j. first_done (is_stripe_by y spread j) m y.stripes y.stripes) next
    where
      unfilled : (x : Column) → is_set_filling x ≡ false → done_set x ≡ None
      unfilled (column.Live device) h = refl
      unfilled column.Dead h = refl
      unfilled (column.Filling device done) h = no (sym h)
      unfilled column.Spread h = refl

pub filled-at : (y : Shape) (columns : List Column) (c device m : ℕ) → AtMostOne is_set_filling columns → slice_get columns c ≡ Some (column.Filling device m)
    → filled_in y columns ≡ first_done (is_stripe_by y (spreads columns) c) m y.stripes y.stripes
filled-at y columns c device m one is =
    let here : 0 + c ≡ c = omega arith in
    sym (filled-all y columns) ∙ found y (spreads columns) columns 0 c device m before is ∙ ap (λ j. first_done (is_stripe_by y (spreads columns) j) m y.stripes y.stripes) here
  where
    before : (j : ℕ) → j < c → passes is_set_filling (slice_get columns j) ≡ false
    before j lt = elim (cases_Bool (passes is_set_filling (slice_get columns j))) [
      | inr h ↦ h
      | inl h ↦ absurd (omega (arith, lt, one j c h (ap (passes is_set_filling) is)))
    ]

-- a list of the first goes by what passes
pub first-same : (p q : ℕ → Bool) (m s n : ℕ) → ((k : ℕ) → p k ≡ q k) → first_done p m s n ≡ first_done q m s n
unfolding first_done
first-same p q m zero n same = refl
first-same p q m (suc s) n same =
    ap₂ (λ (b : Bool) (l : List Bool). if b then slice_set l s true else l)
    (ap₂ (λ (b : Bool) (k : ℕ). b && nat_lt k m) (same s) (counts s)) (first-same p q m s n same)
  where
    counts : (n : ℕ) → count_below p n ≡ count_below q n
    counts zero = refl
    counts (suc n) = ap₂ (λ (k : ℕ) (b : Bool). k + (if b then 1 else 0)) (counts n) (same n)

-- ## Set, and read again

pub set-read : (y : Shape) (columns : List Column) (c device done : ℕ) → AtMostOne is_set_filling columns → slice_get columns c ≡ Some (column.Filling device done)
    → done ≤ count_below (is_stripe_of y (states_of y columns) c) y.stripes → leading y (states_of y columns) c ≡ done
set-read y columns c device done one is many =
    let p = is_stripe_of y (states_of y columns) c in
    let list : filled_in y columns ≡ first_done p done y.stripes y.stripes =
    filled-at y columns c device done one is
    ∙ first-same (is_stripe_by y (spreads columns) c) p done y.stripes y.stripes (λ s. stripe-same y (spreads columns) (are_spread (states_of y columns)) c s (λ k. sym (states-spread y columns k))) in
    let here : slice_get (states_of y columns) c ≡ Some (Filling device (filled_in y columns)) = states-at y columns c (column.Filling device done) is in
    sym (leading-is y (states_of y columns) c y.stripes refl)
    ∙ ap (λ o. count_below (is_led p (is_done_on o)) y.stripes) here
    ∙ ap (λ l. count_below (is_led p (is_done l)) y.stripes) list
    ∙ led-first p done y.stripes many

-- a column is whole exactly where so many of its stripes lead as it has
pub whole-leads : (y : Shape) (cols : List ColumnState) (c : ℕ) → IsWhole y cols c → leading y cols c ≡ count_below (is_stripe_of y cols c) y.stripes
whole-leads y cols c whole =
    sym (leading-is y cols c y.stripes refl)
    ∙ led-all (is_stripe_of y cols c) (is_done_on (slice_get cols c)) y.stripes (each-done (is_stripe_of y cols c) (is_done_on (slice_get cols c)) y.stripes (λ s sw of. whole s sw ((stripe-of y cols c s).0 of)))

pub leads-whole : (y : Shape) (cols : List ColumnState) (c : ℕ) → leading y cols c ≡ count_below (is_stripe_of y cols c) y.stripes → IsWhole y cols c
leads-whole y cols c e s sw of = all-led (is_stripe_of y cols c) (is_done_on (slice_get cols c)) y.stripes (leading-is y cols c y.stripes refl ∙ e) s sw ((stripe-of y cols c s).1 of)

-- no more lead than there are
pub leading-few : (y : Shape) (cols : List ColumnState) (c : ℕ) → leading y cols c ≤ count_below (is_stripe_of y cols c) y.stripes
leading-few y cols c = omega (arith, leading-is y cols c y.stripes refl, led-few (is_stripe_of y cols c) (is_done_on (slice_get cols c)) y.stripes)

-- ## Columns as they are read

module _ (y : Shape) (cols : List ColumnState) (kept : List Column) (read : AreRead y cols kept) (one : AtMostOne is_set_filling kept) where
  -- of the stripes that are set on a column that is filling each was done
  set-done : (c s device m : ℕ) → slice_get kept c ≡ Some (column.Filling device m) → m ≤ leading y cols c → is_done (filled_in y kept) s ≡ true → is_done_on (slice_get cols c) s ≡ true
  set-done c s device m is few h =
      let p = is_stripe_of y cols c in
      let list : filled_in y kept ≡ first_done p m y.stripes y.stripes =
      filled-at y kept c device m one is
      ∙ first-same (is_stripe_by y (spreads kept) c) p m y.stripes y.stripes (λ t. stripe-same y (spreads kept) (are_spread cols) c t (read.spread c device m is)) in
      let first = first-marked p m y.stripes y.stripes s (ap (λ l. is_done l s) (sym list) ∙ h) in
      led-done p (is_done_on (slice_get cols c)) s y.stripes first.0 (omega (arith, first.1, few, leading-is y cols c y.stripes refl))

  none-of : {A : Type 0} {at : Spot} → None ≡ Some at → A
  none-of {at = at} h = absurd (let u : ⊥ = cc in u)

  -- what is set of a column, by what it was
  module _ (c : ℕ) where
    fewer-as : (was : Option ColumnState) (x : Option Column) → slice_get cols c ≡ was → slice_get kept c ≡ x → IsReadOn y cols c was x → IsFewerOn y cols (states_of y kept) c
    fewer-as was x w k r = record { device = device was x w k r; spread = spread was x w k r; done = done was x w k r }
      where
        device : (was : Option ColumnState) (x : Option Column) → slice_get cols c ≡ was → slice_get kept c ≡ x → IsReadOn y cols c was x → (p : Place) (at : Spot) → open_on (slice_get (states_of y kept) c) p ≡ Some at → open_on (slice_get cols c) p ≡ Some at
        device was x w k r p at h = ap (λ o. open_on o p) w ∙ by was x k r (sym (ap (λ o. open_on o p) (states-get y kept c ∙ ap (option_map (state_set y.stripes (filled_in y kept))) k)) ∙ h)
          where
            by : (was : Option ColumnState) (x : Option Column) → slice_get kept c ≡ x → IsReadOn y cols c was x → open_on (option_map (state_set y.stripes (filled_in y kept)) x) p ≡ Some at → open_on was p ≡ Some at
            by (Some (Live d)) x k (inl e) h = sym (ap (λ o. open_on (option_map (state_set y.stripes (filled_in y kept)) o) p) e) ∙ h
            by (Some (Live d)) x k (inr e) h = none-of (sym (ap (λ o. open_on (option_map (state_set y.stripes (filled_in y kept)) o) p) e) ∙ h)
            by (Some Dead) x k e h = none-of (sym (ap (λ o. open_on (option_map (state_set y.stripes (filled_in y kept)) o) p) e) ∙ h)
            by (Some (Filling d list)) x k (inl e) h = sym (ap (λ o. open_on (option_map (state_set y.stripes (filled_in y kept)) o) p) e.1) ∙ h
            by (Some (Filling d list)) x k (inr (inl e)) h = sym (ap (λ o. open_on (option_map (state_set y.stripes (filled_in y kept)) o) p) e.2) ∙ h
            by (Some (Filling d list)) x k (inr (inr e)) h = none-of (sym (ap (λ o. open_on (option_map (state_set y.stripes (filled_in y kept)) o) p) e) ∙ h)
            by (Some (Spread list)) x k (inl e) h = none-of (sym (ap (λ o. open_on (option_map (state_set y.stripes (filled_in y kept)) o) p) e.1) ∙ h)
            by (Some (Spread list)) x k (inr e) h = none-of (sym (ap (λ o. open_on (option_map (state_set y.stripes (filled_in y kept)) o) p) e) ∙ h)
            by None x k e h = none-of (sym (ap (λ o. open_on (option_map (state_set y.stripes (filled_in y kept)) o) p) e) ∙ h)

        spread : (was : Option ColumnState) (x : Option Column) → slice_get cols c ≡ was → slice_get kept c ≡ x → IsReadOn y cols c was x → are_spread (states_of y kept) c ≡ true → are_spread cols c ≡ true
        spread was x w k r h = ap (passes is_spread) w ∙ by was x r (sym (ap (passes is_set_spread) k) ∙ sym (states-spread y kept c) ∙ h)
          where
            by : (was : Option ColumnState) (x : Option Column) → IsReadOn y cols c was x → passes is_set_spread x ≡ true → passes is_spread was ≡ true
            by (Some (Live d)) x (inl e) h = no (sym (ap (passes is_set_spread) e) ∙ h)
            by (Some (Live d)) x (inr e) h = no (sym (ap (passes is_set_spread) e) ∙ h)
            by (Some Dead) x e h = no (sym (ap (passes is_set_spread) e) ∙ h)
            by (Some (Filling d list)) x (inl e) h = no (sym (ap (passes is_set_spread) e.1) ∙ h)
            by (Some (Filling d list)) x (inr (inl e)) h = no (sym (ap (passes is_set_spread) e.2) ∙ h)
            by (Some (Filling d list)) x (inr (inr e)) h = no (sym (ap (passes is_set_spread) e) ∙ h)
            by (Some (Spread list)) x r h = refl
            by None x e h = no (sym (ap (passes is_set_spread) e) ∙ h)

        done : (was : Option ColumnState) (x : Option Column) → slice_get cols c ≡ was → slice_get kept c ≡ x → IsReadOn y cols c was x → (s : ℕ) → s < y.stripes → IsStripeOf y cols c s → is_done_on (slice_get (states_of y kept) c) s ≡ true → is_done_on (slice_get cols c) s ≡ true
        done was x w k r s sw of h = by was x w k r (sym (ap (λ o. is_done_on o s) (states-get y kept c ∙ ap (option_map (state_set y.stripes (filled_in y kept))) k)) ∙ h)
          where
            dead : {A : Type 0} (x : Option Column) → x ≡ Some column.Dead → is_done_on (option_map (state_set y.stripes (filled_in y kept)) x) s ≡ true → A
            dead x e h = no (sym (ap (λ o. is_done_on (option_map (state_set y.stripes (filled_in y kept)) o) s) e) ∙ h)

            by : (was : Option ColumnState) (x : Option Column) → slice_get cols c ≡ was → slice_get kept c ≡ x → IsReadOn y cols c was x → is_done_on (option_map (state_set y.stripes (filled_in y kept)) x) s ≡ true → is_done_on (slice_get cols c) s ≡ true
            by (Some (Live d)) x w k r h = ap (λ o. is_done_on o s) w
            by (Some Dead) x w k e h = dead x e h
            by (Some (Filling d list)) x w k (inl e) h = e.0 s sw of
            by (Some (Filling d list)) x w k (inr (inl e)) h = set-done c s d e.0 (k ∙ e.2) e.1 (sym (ap (λ o. is_done_on (option_map (state_set y.stripes (filled_in y kept)) o) s) e.2) ∙ h)
            by (Some (Filling d list)) x w k (inr (inr e)) h = dead x e h
            by (Some (Spread list)) x w k (inl e) h = e.0 s sw of
            by (Some (Spread list)) x w k (inr e) h = dead x e h
            by None x w k e h = no (sym (ap (λ o. is_done_on (option_map (state_set y.stripes (filled_in y kept)) o) s) e) ∙ h)

  pub read-fewer : AreFewer y cols (states_of y kept)
  read-fewer c = fewer-as c (slice_get cols c) (slice_get kept c) refl refl (read.each c)

-- ## Deaths that leave the stripes of a filling column what they were

module _ (y : Shape) (old new : List Column) (die : DieApart old new) (one : AtMostOne is_set_filling old) where
  was-filling : (c device m : ℕ) → slice_get new c ≡ Some (column.Filling device m) → slice_get old c ≡ Some (column.Filling device m)
  was-filling c device m is = elim (die.each c) [
    | inl e ↦ sym e ∙ is
    | inr e ↦ let z : Some column.Dead ≡ Some (column.Filling device m) = sym e ∙ is in absurd (let u : ⊥ = cc in u)
  ]

  one-new : AtMostOne is_set_filling new
  one-new c k h g = one c k (was c h) (was k g)
    where
      was : (j : ℕ) → passes is_set_filling (slice_get new j) ≡ true → passes is_set_filling (slice_get old j) ≡ true
      was j h = elim (die.each j) [
        | inl e ↦ ap (passes is_set_filling) (sym e) ∙ h
        | inr e ↦ no (sym (ap (passes is_set_filling) e) ∙ h)
      ]

  -- a column that is filling still has the same stripes done
  same-list : (c device m : ℕ) → slice_get new c ≡ Some (column.Filling device m) → filled_in y new ≡ filled_in y old
  same-list c device m is =
      filled-at y new c device m one-new is
      ∙ first-same (is_stripe_by y (spreads new) c) (is_stripe_by y (spreads old) c) m y.stripes y.stripes (λ s. stripe-same y (spreads new) (spreads old) c s (die.spread c device m is))
      ∙ sym (filled-at y old c device m one (was-filling c device m is))

  -- a column that didn't die is set as it was
  pub states-same : (c : ℕ) → slice_get new c ≡ slice_get old c → slice_get (states_of y new) c ≡ slice_get (states_of y old) c
  states-same c e = states-get y new c ∙ by (slice_get new c) refl ∙ ap (option_map (state_set y.stripes (filled_in y old))) e ∙ sym (states-get y old c)
    where
      by : (o : Option Column) → slice_get new c ≡ o → option_map (state_set y.stripes (filled_in y new)) (slice_get new c) ≡ option_map (state_set y.stripes (filled_in y old)) (slice_get new c)
      by (Some (column.Live d)) e = rw e refl
      by (Some column.Dead) e = rw e refl
      by (Some column.Spread) e = rw e refl
      by (Some (column.Filling d m)) e = ap (λ l. option_map (state_set y.stripes l) (slice_get new c)) (same-list c d m e)
      by None e = rw e refl

  pub states-die : (c : ℕ) → (slice_get (states_of y new) c ≡ slice_get (states_of y old) c) ⊎ (slice_get (states_of y new) c ≡ Some Dead)
  states-die c = elim (die.each c) [
    | inr e ↦ inr (states-at y new c column.Dead e)
    | inl e ↦ inl (states-same c e)
  ]
