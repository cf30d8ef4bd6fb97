-- How far a column came that is filling in the end.
use Rattle.std.proofs.Common.{◌≡◌, ◌⊎◌, ◌<◌, ◌+◌, ◌==◌, ◌++◌, inl, inr, ℕ, zero, suc, List, [], ◌∷◌, length, map, Bool, true, false, Option, Some, None, slice_get, slice_set, refl, sym, ◌∙◌, ap, ap₂, subst, arith}
use Rattle.std.specs.Prelude.{Contains, ◌&&◌, ◌||◌, if◌then◌else◌, not, option_and_then, option_map, unwrap_or}
use Rattle.std.proofs.lemmas.Bool.{and_parts, cases_eq, cases_lt}
use Rattle.std.proofs.lemmas.List.{length-map}
use Rattle.std.proofs.lemmas.Option.{slice_get_within}
use Rattle.blk_disk.specs.declared.disk.Disk.{Ghosts as DiskGhosts}
use Rattle.lay_core.specs.Layout.{Shape}
use Rattle.lay_core.specs.declared.layout.Layout.{Ghosts as LayoutGhosts}
use Rattle.eng_cols.specs.declared.column.Column.{Column}
use Rattle.eng_cols.specs.declared.column.Column.TheVariants as set
use Rattle.eng_cols.specs.Cols.{AtMostOne, ColumnState, Live, Dead, Filling, Spread, is_done, is_done_on, is_set_filling, is_set_spread, is_spread, none_done, passes}
use Rattle.eng_cols.specs.Seats.{HasStripeLeft, IsStripeOf}
use Rattle.eng_cols.specs.Stripes.{all_done_below, are_spread, done_set, first_done, is_stripe_by, is_stripe_of, leading, spreads, states_of}
use Rattle.eng_cols.proofs.Counting.{leading-is, led-stays, stripe-of, stripe-same}
use Rattle.eng_cols.proofs.Fewer.{filled-at, first-same, set-read, states-at, states-spread}
use Rattle.eng_cols.proofs.Leading.{count-past, count-rest, first-marked, first-marks}
use Rattle.eng_cols.proofs.Lists.{count_at_most, get_set_other, get_set_same}
use Rattle.eng_world.specs.declared.item.Item.{Item}
use Rattle.eng_world.specs.declared.item.Traced.{Traced}
use Rattle.eng_world.specs.declared.item.Traced.TheVariants as event
use Rattle.eng_world.specs.Serving.{IsLeft}
use Rattle.eng_world.specs.Rebuilding.{AskedAreDone, GoesOnto, GoesOntoBy, IsFrontOn, OneRebuilds, Rebuilds, SpreadAlike}
use Rattle.eng_world.proofs.Filled.{fills-so}
use Rattle.eng_world.proofs.OnlyAsked.{only-asked}
use Rattle.eng_world.proofs.Whole.{asked-done, fill-seats}
use Rattle.eng_parts.specs.declared.setup.Setup.{Setup}
use Rattle.eng_parts.specs.declared.setup.Closed.{Closed}
use Rattle.eng_state.specs.declared.array.Array.{Array}
use Rattle.eng_clients.specs.Listing.{rebuild as rebuild_of}
use Rattle.eng_starts.specs.Rebuilding.{AreRebuildsBelow}
use Rattle.eng_array.specs.declared.start.Start.{Start}
use Rattle.eng_array.specs.declared.start.Start.TheVariants as start
use Rattle.eng_array.specs.Starts as starts
use Rattle.top_close.specs.Closes.{SpreadEnds, FillingEnds, ClosesAs}
use Rattle.top_serve.specs.Setups.{shape_in, graphs_in, begun_for, begun_in, with_start, MayStart, columns_in}
use Rattle.top_serve.specs.Served.{FillsBy, IsRebuiltBy, done_before}
use Rattle.top_serve.proofs.Alike.{AreBegun, bare, kind, kind-filling, spread-kind}
use Rattle.top_serve.proofs.Begins.{replied, rests}
use Rattle.top_serve.proofs.Behind.{kind-mid, now-set}
use Rattle.top_serve.proofs.Between.{Course}
use Rattle.top_serve.proofs.Closings.{not-whole, set-whole}
use Rattle.top_serve.proofs.Columns.{SetIn, own-quiet, run-kinds}
use Rattle.top_serve.proofs.Hands.{closes}
use Rattle.top_serve.proofs.Meaning.{invariant}
use Rattle.top_serve.proofs.Starting.{first_of}
use Rattle.top_serve.proofs.Stopping.{rebuilds-it}
use Rattle.eng_cols.proofs.Words.{is_led}
use Rattle.lay_core.specs.Touched.{count_below}

-- ## The column as it is closed

same-lists : {X : Type 0} (xs ys : List X) → ((k : ℕ) → slice_get xs k ≡ slice_get ys k) → xs ≡ ys
same-lists [] [] h = refl
same-lists [] (y ∷ ys) h = let z : None ≡ Some y = h 0 in absurd (let u : ⊥ = cc in u)
same-lists (x ∷ xs) [] h = let z : Some x ≡ None = h 0 in absurd (let u : ⊥ = cc in u)
same-lists (x ∷ xs) (y ∷ ys) h = let z : Some x ≡ Some y = h 0 in let e : x ≡ y = cc in ap (λ v. v ∷ xs) e ∙ ap (λ l. y ∷ l) (same-lists xs ys (λ k. h (suc k)))

-- where each spread column is whole, none dies at the close
mid-same : (y : Shape) (now : List ColumnState) (closed : List Column) (closes : ClosesAs y now closed) → ((c : ℕ) → SetIn y.stripes (slice_get now c)) → closes.mid ≡ now
mid-same y now closed closes settled = same-lists closes.mid now (λ k. by k (slice_get now k) (slice_get closes.mid k) refl (settled k) (closes.spread k))
  where
    by : (k : ℕ) (o m : Option ColumnState) → slice_get now k ≡ o → SetIn y.stripes o → SpreadEnds y now k o m → m ≡ o
    by k (Some (Live d)) m at h s = s
    by k (Some Dead) m at h s = s
    by k (Some (Filling d done)) m at h s = s
    by k (Some (Spread done)) m at h (inl s) = s.1
    by k (Some (Spread done)) m at h (inr s) = not-whole y now k (set-whole y now k done at h) s.0
    by k None m at h s = s

-- a column that is filling still lacks a stripe, and those are done that lead
left-in : (y : Shape) (cols : List ColumnState) (c d n : ℕ) (o : Option ColumnState) (kept : Option Column) → FillingEnds y cols c o kept → kept ≡ Some (set.Filling d n) → ((done : List Bool) × (o ≡ Some (Filling d done))) × HasStripeLeft y cols c × (n ≡ leading y cols c)
left-in y cols c d n (Some (Live e)) kept f is = let z : Some (set.Live e) ≡ Some (set.Filling d n) = sym f ∙ is in absurd (let u : ⊥ = cc in u)
left-in y cols c d n (Some Dead) kept f is = let z : Some set.Dead ≡ Some (set.Filling d n) = sym f ∙ is in absurd (let u : ⊥ = cc in u)
left-in y cols c d n (Some (Spread done)) kept f is = let z : Some set.Spread ≡ Some (set.Filling d n) = sym f ∙ is in absurd (let u : ⊥ = cc in u)
left-in y cols c d n None kept f is = let z : None ≡ Some (set.Filling d n) = sym f ∙ is in absurd (let u : ⊥ = cc in u)
left-in y cols c d n (Some (Filling e done)) kept (inl f) is = let z : Some (set.Live e) ≡ Some (set.Filling d n) = sym f.1 ∙ is in absurd (let u : ⊥ = cc in u)
left-in y cols c d n (Some (Filling e done)) kept (inr f) is =
    let z : Some (set.Filling e (leading y cols c)) ≡ Some (set.Filling d n) = sym f.1 ∙ is in
    let a : e ≡ d = cc in
    let b : n ≡ leading y cols c = cc in
    ((done, ap (λ v. Some (Filling v done)) a), f.0, b)

-- ## Lists

or-more : (a b d : Bool) → (b ≡ true → d ≡ true) → (a || b) ≡ true → (a || d) ≡ true
or-more true b d f h = refl
or-more false b d f h = f h

and-both : (a b : Bool) → a ≡ true → b ≡ true → (a && b) ≡ true
and-both true b e f = f
and-both false b e f = let z : false ≡ true = e in absurd (let u : ⊥ = cc in u)

-- a stripe that is done stays so as another is done
set-keeps : (l : List Bool) (t s : ℕ) → is_done l s ≡ true → is_done (slice_set l t true) s ≡ true
set-keeps [] t s h = h
set-keeps (x ∷ l) zero zero h = refl
set-keeps (x ∷ l) zero (suc s) h = h
set-keeps (x ∷ l) (suc t) zero h = h
set-keeps (x ∷ l) (suc t) (suc s) h = set-keeps l t s h

last-has : (own : List Traced) (e : Traced) → Contains (own ++ e ∷ []) e
last-has [] e = (zero, omega arith, refl)
last-has (x ∷ own) e = let h = last-has own e in (suc h.0, (let l = h.1 in omega (arith, l)), h.2)

rebuild-has : (stripes : List ℕ) (s : ℕ) → Contains stripes s → Contains (map rebuild_of stripes) (rebuild_of s)
rebuild-has [] s (n, within, is) = absurd (omega (arith, within))
rebuild-has (x ∷ stripes) s (zero, within, is) = (zero, omega arith, ap rebuild_of is)
rebuild-has (x ∷ stripes) s (suc n, within, is) = let h = rebuild-has stripes s (n, omega (arith, within), is) in (suc h.0, (let l = h.1 in omega (arith, l)), h.2)

-- the column of a rebuild onto a device, and how many rebuilds it asks
fills-of : (rebuild : Start) (c most : ℕ) → FillsBy (Some rebuild) c most → (starts.column_of rebuild ≡ c) × (starts.most_of rebuild ≡ most)
fills-of (start.Fill k device asked) c most fills = fills
fills-of (start.Resume k asked) c most fills = fills
fills-of (start.Spread k) c most fills = absurd fills

-- ## Tests of stripes

not-so : {A : Type 0} (b : Bool) → b ≡ true → b ≡ false → A
not-so b is other = let z : true ≡ false = sym is ∙ other in absurd (let u : ⊥ = cc in u)

-- two tests that pass the same
same-test : (a b : Bool) → (a ≡ true → b ≡ true) → (b ≡ true → a ≡ true) → a ≡ b
same-test true true f g = refl
same-test true false f g = sym (f refl)
same-test false true f g = g refl
same-test false false f g = refl

-- where none is done none leads
none-led : (p done : ℕ → Bool) (n : ℕ) → ((s : ℕ) → done s ≡ false) → count_below (is_led p done) n ≡ 0
none-led p done zero none = refl
none-led p done (suc n) none = step (p n) refl (none-led p done n none)
  where
    step : (b : Bool) → p n ≡ b → count_below (is_led p done) n ≡ 0 → count_below (is_led p done) (suc n) ≡ 0
    step true is before = led-stays p done n (suc n) (omega arith) is (none n) ∙ before
    step false is before = count-rest (is_led p done) n (ap (λ b. b && all_done_below p done (suc n)) is) ∙ before

-- what leads goes by what passes, and by what is done
all-alike : (p q d e : ℕ → Bool) (n : ℕ) → ((s : ℕ) → p s ≡ q s) → ((s : ℕ) → d s ≡ e s) → all_done_below p d n ≡ all_done_below q e n
unfolding all_done_below
all-alike p q d e zero same done = refl
all-alike p q d e (suc n) same done = ap₂ (λ (a b : Bool). a && b) (all-alike p q d e n same done) (ap₂ (λ (a b : Bool). not a || b) (same n) (done n))

led-alike : (p q d e : ℕ → Bool) (n : ℕ) → ((s : ℕ) → p s ≡ q s) → ((s : ℕ) → d s ≡ e s) → count_below (is_led p d) n ≡ count_below (is_led q e) n
led-alike p q d e zero same done = refl
led-alike p q d e (suc n) same done =
    ap₂ (λ (a : ℕ) (b : Bool). a + (if b then 1 else 0)) (led-alike p q d e n same done) (ap₂ (λ (a b : Bool). a && b) (same n) (all-alike p q d e (suc n) same done))

dead-leads : (y : Shape) (cols : List ColumnState) (c : ℕ) → slice_get cols c ≡ Some Dead → leading y cols c ≡ 0
dead-leads y cols c dead = sym (leading-is y cols c y.stripes refl) ∙ none-led (is_stripe_of y cols c) (is_done_on (slice_get cols c)) y.stripes (λ s. ap (λ o. is_done_on o s) dead)

bare-filling : (o : Option Column) (d : ℕ) → option_map bare o ≡ Some (set.Filling d 0) → (m : ℕ) × (o ≡ Some (set.Filling d m))
bare-filling (Some (set.Filling e m)) d h = let z : Some (set.Filling e 0) ≡ Some (set.Filling d 0) = h in let same : e ≡ d = cc in (m, ap (λ v. Some (set.Filling v m)) same)
bare-filling (Some (set.Live e)) d h = let z : Some (set.Live e) ≡ Some (set.Filling d 0) = h in absurd (let u : ⊥ = cc in u)
bare-filling (Some set.Dead) d h = let z : Some set.Dead ≡ Some (set.Filling d 0) = h in absurd (let u : ⊥ = cc in u)
bare-filling (Some set.Spread) d h = let z : Some set.Spread ≡ Some (set.Filling d 0) = h in absurd (let u : ⊥ = cc in u)
bare-filling None d h = let z : None ≡ Some (set.Filling d 0) = h in absurd (let u : ⊥ = cc in u)

-- ## A column that is set filling

module _ (y : Shape) (columns : List Column) (c device m : ℕ) (one : AtMostOne is_set_filling columns) (is : slice_get columns c ≡ Some (set.Filling device m)) where
  abbrev mine : ℕ → Bool
  mine s = is_stripe_of y (states_of y columns) c s

  -- those stripes are done that are its first ones
  first-are : (s : ℕ) → is_done_on (slice_get (states_of y columns) c) s ≡ is_done (first_done mine m y.stripes y.stripes) s
  first-are s =
      ap (λ o. is_done_on o s) (states-at y columns c (set.Filling device m) is)
      ∙ ap (λ l. is_done l s) (filled-at y columns c device m one is
      ∙ first-same (is_stripe_by y (spreads columns) c) mine m y.stripes y.stripes (λ t. stripe-same y (spreads columns) (are_spread (states_of y columns)) c t (λ k. sym (states-spread y columns k))))

  set-front : IsFrontOn y (states_of y columns) c
  set-front s t tn st ps pt h =
      let last = first-marked mine m y.stripes y.stripes t (sym (first-are t) ∙ h) in
      let here = (stripe-of y (states_of y columns) c s).1 ps in
      let more = count-past mine s t st here in
      let few = last.1 in
      first-are s ∙ first-marks mine m y.stripes y.stripes s (omega arith) (omega (arith, tn, st)) here (omega (arith, few, more))

  -- where one of them is left, so many of them lead as it says
  set-leads : (s : ℕ) → s < y.stripes → mine s ≡ true → is_done_on (slice_get (states_of y columns) c) s ≡ false → leading y (states_of y columns) c ≡ m
  set-leads s sw here left = set-read y columns c device m one is (elim (cases_lt (count_below mine y.stripes) m) [
    | inl lt ↦
        let before = count-past mine s y.stripes sw here in
        not-so _ (first-are s ∙ first-marks mine m y.stripes y.stripes s (omega arith) sw here (omega (arith, lt, before))) left
    | inr ge ↦ omega (arith, ge)
  ])

-- where no column is to be spread, those are spread that were
spreads-kept : {L D : Type 0} (lay : LayoutGhosts L) (disk : DiskGhosts D) (setup : Setup L D) (how : Option Start) → MayStart lay disk setup how → ((k : ℕ) → how ≡ Some (start.Spread k) → ⊥) → (k : ℕ) → spreads (with_start how setup.columns.items) k ≡ spreads setup.columns.items k
spreads-kept lay disk setup None may none k = refl
spreads-kept lay disk setup (Some (start.Resume c most)) may none k = refl
spreads-kept lay disk setup (Some (start.Spread c)) may none k = absurd (none c refl)
spreads-kept lay disk setup (Some (start.Fill c device most)) may none k = elim (cases_eq k c) [
  | inl e ↦
      ap (spreads (slice_set setup.columns.items c (set.Filling device 0))) e
      ∙ (ap (passes is_set_spread) (get_set_same setup.columns.items c set.Dead (set.Filling device 0) may.target.0.dead)
      ∙ sym (ap (spreads setup.columns.items) e ∙ ap (passes is_set_spread) may.target.0.dead))
  | inr ne ↦ ap (passes is_set_spread) (get_set_other setup.columns.items c k (set.Filling device 0) ne)
]

module _ {L D : Type 0} (lay : LayoutGhosts L) (disk : DiskGhosts D) (setup : Setup L D) (how : Option Start) (first last : Array L D) (closed : Closed L D) (p : Course lay disk setup how first last closed) where
  abbrev events : List Traced
  events = p.own ++ first_of how p.count

  -- where a column may be filling in the end none is to be spread
  not-spread : (h : Option Start) (c most : ℕ) → FillsBy h c most → (k : ℕ) → h ≡ Some (start.Spread k) → ⊥
  not-spread None c most fills k is = let z : None ≡ Some (start.Spread k) = is in let u : ⊥ = cc in u
  not-spread (Some (start.Fill j device asked)) c most fills k is = let z : Some (start.Fill j device asked) ≡ Some (start.Spread k) = is in let u : ⊥ = cc in u
  not-spread (Some (start.Resume j asked)) c most fills k is = let z : Some (start.Resume j asked) ≡ Some (start.Spread k) = is in let u : ⊥ = cc in u
  not-spread (Some (start.Spread j)) c most fills k is = fills

  -- in the last world the column is filling, lacks a stripe, and those are done that lead
  left-now : (c d n most : ℕ) → FillsBy how c most → slice_get closed.columns.items c ≡ Some (set.Filling d n)
      → ((done : List Bool) × (slice_get p.now.columns c ≡ Some (Filling d done))) × HasStripeLeft (shape_in lay setup) p.now.columns c × (n ≡ leading (shape_in lay setup) p.now.columns c)
  left-now c d n most fills is =
      let ends = closes lay disk setup how first last closed p in
      let same = mid-same (shape_in lay setup) p.now.columns closed.columns.items ends (λ k. now-set lay disk setup how first last closed p k (λ j also. absurd (not-spread how c most fills j also))) in
      left-in (shape_in lay setup) p.now.columns c d n (slice_get p.now.columns c) (slice_get closed.columns.items c)
      (subst (λ (cols : List ColumnState). FillingEnds (shape_in lay setup) cols c (slice_get cols c) (slice_get closed.columns.items c)) same (ends.filling c)) is

  unlost : closed.lost ≡ None → p.now.lost ≡ None
  unlost none = p.shows_now.lost ∙ (sym p.between.closes.is_closed.lost ∙ none)

  begun-as : (h : Option Start) → how ≡ h → AreBegun (shape_in lay setup).stripes h p.start.columns p.mid.columns
  begun-as h at = subst (λ z. AreBegun (shape_in lay setup).stripes z p.start.columns p.mid.columns) at p.begun_columns

  mid-for : p.mid.columns ≡ begun_for lay setup how
  mid-for = by how p.begun_columns
    where
      by : (h : Option Start) → AreBegun (shape_in lay setup).stripes h p.start.columns p.mid.columns → p.mid.columns ≡ begun_for lay setup h
      by None is = is ∙ p.columns
      by (Some (start.Fill k device asked)) is = is ∙ ap (λ (l : List ColumnState). slice_set l k (Filling device (none_done (shape_in lay setup).stripes))) p.columns
      by (Some (start.Resume k asked)) is = is ∙ p.columns
      by (Some (start.Spread k)) is = is ∙ ap (λ (l : List ColumnState). slice_set l k (Spread (none_done (shape_in lay setup).stripes))) p.columns

  kinds-on : (c : ℕ) → (kind (slice_get p.now.columns c) ≡ kind (slice_get p.mid.columns c)) ⊎ (slice_get p.now.columns c ≡ Some Dead)
  kinds-on c = run-kinds (shape_in lay setup) (graphs_in setup) p.mid p.own p.now p.are_own p.run_own c

  -- a column that is spread was so as the rebuild began, and so a stripe of a column was one of it
  spread-on : (k : ℕ) → passes is_spread (slice_get p.now.columns k) ≡ true → passes is_spread (slice_get p.mid.columns k) ≡ true
  spread-on k h = elim (kinds-on k) [
    | inl same ↦ spread-kind (slice_get p.mid.columns k) ∙ (ap (passes is_set_spread) (sym same) ∙ (sym (spread-kind (slice_get p.now.columns k)) ∙ h))
    | inr dead ↦ let z : false ≡ true = sym (ap (passes is_spread) dead) ∙ h in absurd (let u : ⊥ = cc in u)
  ]

  stripe-on : (c s : ℕ) → IsStripeOf (shape_in lay setup) p.now.columns c s → IsStripeOf (shape_in lay setup) p.mid.columns c s
  stripe-on c s (i, iw, of) = (i, iw, or-more (c == ((shape_in lay setup).place s i).column) _ _ (λ h. let both = and_parts _ _ h in and-both _ _ (spread-on ((shape_in lay setup).place s i).column both.0) both.1) of)

  dead-first : (c : ℕ) → slice_get setup.columns.items c ≡ Some set.Dead → slice_get p.start.columns c ≡ Some Dead
  dead-first c is = ap (λ (l : List ColumnState). slice_get l c) p.columns ∙ states-at (shape_in lay setup) setup.columns.items c set.Dead is

  -- the same columns are spread as the array is opened
  alike-first : (c most : ℕ) → FillsBy how c most → SpreadAlike (begun_in lay setup how) p.now.columns → SpreadAlike p.start.columns p.now.columns
  alike-first c most fills alike k =
      alike k
      ∙ (states-spread (shape_in lay setup) (with_start how setup.columns.items) k
      ∙ (spreads-kept lay disk setup how p.between.may (not-spread how c most fills) k
      ∙ (sym (states-spread (shape_in lay setup) setup.columns.items k)
      ∙ ap (λ (l : List ColumnState). are_spread l k) (sym p.columns))))

  -- ## The column in the run

  module _ (c d : ℕ) (done : List Bool) (here : slice_get p.now.columns c ≡ Some (Filling d done)) (none : p.now.lost ≡ None) where
    alive : p.now.failed d ≡ false
    alive = (invariant (shape_in lay setup) (graphs_in setup) p.layout p.promises p.start p.opening events p.now p.run none).control.unfailed c d (inr (done, here))

    there : (before : List Bool) × (slice_get p.mid.columns c ≡ Some (Filling d before))
    there = elim (kinds-on c) [
      | inl same ↦ kind-filling (slice_get p.mid.columns c) d (sym same ∙ ap kind here)
      | inr dead ↦ let z : Some Dead ≡ Some (Filling d done) = sym dead ∙ here in absurd (let u : ⊥ = cc in u)
    ]

    -- a stripe that is done stays so, and so what is left was left
    still : (s : ℕ) → is_done_on (slice_get p.mid.columns c) s ≡ true → is_done_on (slice_get p.now.columns c) s ≡ true
    still s is =
        let so = fills-so (shape_in lay setup) (graphs_in setup) c d (λ l. is_done l s ≡ true) (λ l t h. set-keeps l t s h) p.mid p.own p.now (λ e has. own-quiet e (p.are_own e has)) p.run_own none alive
        (there.0, (there.1, sym (ap (λ o. is_done_on o s) there.1) ∙ is)) in
        ap (λ o. is_done_on o s) so.1.0 ∙ so.1.1

    left-before : (s : ℕ) → is_done_on (slice_get p.now.columns c) s ≡ false → is_done_on (slice_get p.mid.columns c) s ≡ false
    left-before s left = by (is_done_on (slice_get p.mid.columns c) s) refl
      where
        by : (b : Bool) → is_done_on (slice_get p.mid.columns c) s ≡ b → is_done_on (slice_get p.mid.columns c) s ≡ false
        by false is = is
        by true is = not-so _ (still s is) left

    goes-by : (rebuild : Start) → how ≡ Some rebuild → (most : ℕ) → FillsBy (Some rebuild) c most → GoesOntoBy p.start events c d p.count
    goes-by (start.Fill k device asked) is most fills =
        let dead : slice_get p.start.columns k ≡ Some Dead = dead-first k (subst (λ h. MayStart lay disk setup h) is p.between.may).target.0.dead in
        let at : slice_get p.mid.columns k ≡ Some (Filling device (none_done (shape_in lay setup).stripes)) =
        ap (λ (l : List ColumnState). slice_get l k) (begun-as (Some (start.Fill k device asked)) is) ∙ get_set_same p.start.columns k Dead (Filling device (none_done (shape_in lay setup).stripes)) dead in
        let z : Some (Filling d there.0) ≡ Some (Filling device (none_done (shape_in lay setup).stripes)) = sym there.1 ∙ (ap (slice_get p.mid.columns) (sym fills.0) ∙ at) in
        let e : device ≡ d = cc in
        inl (subst (λ x. Contains events x) (ap (λ j. event.Fill j device p.count) fills.0 ∙ ap (λ v. event.Fill c v p.count) e)
        (subst (λ h. Contains (p.own ++ first_of h p.count) (event.Fill k device p.count)) (sym is) (last-has p.own (event.Fill k device p.count))))
    goes-by (start.Resume k asked) is most fills =
        inr (
          there.0,
          subst (λ j. Contains events (event.Resume j p.count)) fills.0
              (subst (λ h. Contains (p.own ++ first_of h p.count) (event.Resume k p.count)) (sym is) (last-has p.own (event.Resume k p.count))),
          sym (ap (λ (l : List ColumnState). slice_get l c) (begun-as (Some (start.Resume k asked)) is)) ∙ there.1,
        )
    goes-by (start.Spread k) is most fills = absurd fills

    goes : (rebuild : Start) → how ≡ Some rebuild → (most : ℕ) → FillsBy (Some rebuild) c most → GoesOnto p.start events c d
    goes rebuild is most fills = elim (goes-by rebuild is most fills) [ inl has ↦ inl (p.count, has) | inr w ↦ inr (p.count, w.0, w.1, w.2) ]

    rebuilds-here : (rebuild : Start) → how ≡ Some rebuild → (most : ℕ) → FillsBy (Some rebuild) c most → Rebuilds c events
    rebuilds-here rebuild is most fills = subst (λ j. Rebuilds j events) (fills-of rebuild c most fills).0 (rebuilds-it lay disk setup how first last closed p rebuild is)

    asked-are : (rebuild : Start) → how ≡ Some rebuild → (most : ℕ) → FillsBy (Some rebuild) c most → AskedAreDone (shape_in lay setup) p.now c
    asked-are rebuild is most fills =
        let r = rebuilds-here rebuild is most fills in
        asked-done (shape_in lay setup) p.layout (graphs_in setup) p.promises p.start p.opening c events p.now r p.run none (replied lay disk setup how first last closed p 16)
        (fill-seats (shape_in lay setup) p.layout (graphs_in setup) p.promises p.start p.opening c events p.now r p.run none (replied lay disk setup how first last closed p 16) d (goes rebuild is most fills) alive)

    -- ## As it was begun

    -- it was dead as the array was opened, or it was as it is begun
    abbrev WasDead : Type 0
    WasDead = (slice_get p.start.columns c ≡ Some Dead) × (done_before how setup.columns.items c ≡ 0)

    abbrev WasSame : Type 0
    WasSame = (p.mid.columns ≡ p.start.columns) × ((m : ℕ) × (slice_get setup.columns.items c ≡ Some (set.Filling d m)) × (done_before how setup.columns.items c ≡ m))

    set-as : (m : ℕ) × (slice_get (with_start how setup.columns.items) c ≡ Some (set.Filling d m))
    set-as = bare-filling (slice_get (with_start how setup.columns.items) c) d (sym (kind-mid lay disk setup how first last closed p c) ∙ ap kind there.1)

    before-is : (m : ℕ) → slice_get (with_start how setup.columns.items) c ≡ Some (set.Filling d m) → done_before how setup.columns.items c ≡ m
    before-is m is = ap (λ o. unwrap_or (option_and_then done_set o) 0) is

    same-as : (h : Option Start) → how ≡ h → with_start h setup.columns.items ≡ setup.columns.items → p.mid.columns ≡ p.start.columns → WasSame
    same-as h at columns same = (same, (set-as.0, ap (λ (l : List Column). slice_get l c) (sym columns ∙ ap (λ z. with_start z setup.columns.items) (sym at)) ∙ set-as.1, before-is set-as.0 set-as.1))

    was-as : (h : Option Start) → how ≡ h → (most : ℕ) → FillsBy h c most → WasDead ⊎ WasSame
    was-as None at most fills = inr (same-as None at refl (begun-as None at))
    was-as (Some (start.Resume k asked)) at most fills = inr (same-as (Some (start.Resume k asked)) at refl (begun-as (Some (start.Resume k asked)) at))
    was-as (Some (start.Spread k)) at most fills = absurd fills
    was-as (Some (start.Fill k device asked)) at most fills =
        let may = subst (λ h. MayStart lay disk setup h) at p.between.may in
        let begun : slice_get (with_start how setup.columns.items) k ≡ Some (set.Filling device 0) =
        subst (λ h. slice_get (with_start h setup.columns.items) k ≡ Some (set.Filling device 0)) (sym at) (get_set_same setup.columns.items k set.Dead (set.Filling device 0) may.target.0.dead) in
        inl (
          subst (λ j. slice_get p.start.columns j ≡ Some Dead) fills.0 (dead-first k may.target.0.dead),
          subst (λ j. done_before how setup.columns.items j ≡ 0) fills.0 (ap (λ o. unwrap_or (option_and_then done_set o) 0) begun),
        )

    module _ (was : WasDead ⊎ WasSame) where
      one-set : AtMostOne is_set_filling setup.columns.items
      one-set = count_at_most is_set_filling setup.columns.items p.between.given.filling

      stays : (s : ℕ) → is_done_on (slice_get p.start.columns c) s ≡ true → is_done_on (slice_get p.mid.columns c) s ≡ true
      stays s h = elim was [
        | inl dead ↦ not-so _ h (ap (λ o. is_done_on o s) dead.0)
        | inr same ↦ ap (λ (l : List ColumnState). is_done_on (slice_get l c) s) same.0 ∙ h
      ]

      front : IsFrontOn (shape_in lay setup) p.start.columns c
      front s t tn st ps pt h = elim was [
        | inl dead ↦ not-so _ h (ap (λ o. is_done_on o t) dead.0)
        | inr same ↦ subst (λ (l : List ColumnState). IsFrontOn (shape_in lay setup) l c) (sym p.columns) (set-front (shape_in lay setup) setup.columns.items c d same.1.0 one-set same.1.1) s t tn st ps pt h
      ]

      led-before : (s : ℕ) → s < (shape_in lay setup).stripes → is_stripe_of (shape_in lay setup) p.start.columns c s ≡ true → is_done_on (slice_get p.mid.columns c) s ≡ false → leading (shape_in lay setup) p.start.columns c ≡ done_before how setup.columns.items c
      led-before s sw of left = elim was [
        | inl dead ↦ dead-leads (shape_in lay setup) p.start.columns c dead.0 ∙ sym dead.1
        | inr same ↦
            ap (λ (l : List ColumnState). leading (shape_in lay setup) l c) p.columns
            ∙ (set-leads (shape_in lay setup) setup.columns.items c d same.1.0 one-set same.1.1 s sw
            (subst (λ (l : List ColumnState). is_stripe_of (shape_in lay setup) l c s ≡ true) p.columns of)
            (ap (λ (l : List ColumnState). is_done_on (slice_get l c) s) (sym (same.0 ∙ p.columns)) ∙ left)
            ∙ sym same.1.2)
      ]

      -- ## So many more lead

      module _ (one : OneRebuilds p.now) (alike : SpreadAlike p.start.columns p.now.columns) where
        was-done : p.count ≡ 0 → (s : ℕ) → is_done_on (slice_get p.now.columns c) s ≡ true → is_done_on (slice_get p.start.columns c) s ≡ true
        was-done none_asked s h = elim (only-asked (shape_in lay setup) (graphs_in setup) p.start p.now events p.run c s h) [
          | inl was ↦ was
          | inr w ↦
              let client = one w.0 w.1 s w.2 in
              let lt = slice_get_within (p.now.clients w.0.client).items w.0.index _ w.2 in
              let long : length (p.now.clients w.0.client).items ≡ 0 = ap (λ k. length (p.now.clients k).items) client ∙ (p.many ∙ none_asked) in
              absurd (omega (arith, lt, long))
        ]

        none-more : p.count ≡ 0 → leading (shape_in lay setup) p.now.columns c ≡ leading (shape_in lay setup) p.start.columns c
        none-more none_asked =
            sym (leading-is (shape_in lay setup) p.now.columns c (shape_in lay setup).stripes refl)
            ∙ (led-alike (is_stripe_of (shape_in lay setup) p.now.columns c) (is_stripe_of (shape_in lay setup) p.start.columns c) (is_done_on (slice_get p.now.columns c)) (is_done_on (slice_get p.start.columns c)) (shape_in lay setup).stripes
            (λ s. stripe-same (shape_in lay setup) (are_spread p.now.columns) (are_spread p.start.columns) c s alike)
            (λ s. same-test _ _ (was-done none_asked s) (λ h. still s (stays s h)))
            ∙ leading-is (shape_in lay setup) p.start.columns c (shape_in lay setup).stripes refl)

        grown : (most : ℕ) → FillsBy how c most → p.count ≡ most → leading (shape_in lay setup) p.now.columns c ≡ leading (shape_in lay setup) p.start.columns c + most
        grown zero fills many = none-more many ∙ omega arith
        grown (suc more) fills many = by how refl fills
          where
            by : (h : Option Start) → how ≡ h → FillsBy h c (suc more) → leading (shape_in lay setup) p.now.columns c ≡ leading (shape_in lay setup) p.start.columns c + suc more
            by None at given = absurd (omega (arith, given))
            by (Some rebuild) at given =
                p.between.far (shape_in lay setup) (graphs_in setup) p.start p.now events c d p.count p.layout p.promises p.opening (rebuilds-here rebuild at (suc more) given) p.run none
                (replied lay disk setup how first last closed p 16) (goes-by rebuild at (suc more) given) (omega (arith, many)) alive front one alike
                ∙ ap (λ k. leading (shape_in lay setup) p.start.columns c + k) many

  pub paused : closed.lost ≡ None → (c d n most : ℕ) → FillsBy how c most → slice_get closed.columns.items c ≡ Some (set.Filling d n) → length (p.now.clients 16).items ≡ most
  paused none c d n most fills is = by how refl fills
    where
      l : ((done : List Bool) × (slice_get p.now.columns c ≡ Some (Filling d done))) × HasStripeLeft (shape_in lay setup) p.now.columns c × (n ≡ leading (shape_in lay setup) p.now.columns c)
      l = left-now c d n most fills is

      listed : (h : Option Start) → how ≡ h → IsRebuiltBy (shape_in lay setup) (columns_in lay setup) h (p.now.clients 16).items
      listed h at = subst (λ z. IsRebuiltBy (shape_in lay setup) (columns_in lay setup) z (p.now.clients 16).items) at (rests lay disk setup how first last closed p).rebuilds

      by : (h : Option Start) → how ≡ h → FillsBy h c most → length (p.now.clients 16).items ≡ most
      by None at fills = ap (λ (xs : List Item). length xs) (listed None at) ∙ sym fills
      by (Some rebuild) at fills =
          let of = fills-of rebuild c most fills in
          let s = l.1.stripe in
          let b : AreRebuildsBelow (shape_in lay setup) (begun_for lay setup (Some rebuild)) (starts.column_of rebuild) (starts.most_of rebuild) (shape_in lay setup).stripes (p.now.clients 16).items = listed (Some rebuild) at in
          let left : IsLeft (shape_in lay setup) p.mid.columns c s = record { within = l.1.within; of_column = stripe-on c s l.1.of_column; left = left-before c d l.0.0 l.0.1 (unlost none) s l.1.left } in
          let begun : p.mid.columns ≡ begun_for lay setup (Some rebuild) = subst (λ h. p.mid.columns ≡ begun_for lay setup h) at mid-for in
          elim (b.first s l.1.within (subst (λ j. IsLeft (shape_in lay setup) (begun_for lay setup (Some rebuild)) j s) (sym of.0) (subst (λ (cols : List ColumnState). IsLeft (shape_in lay setup) cols c s) begun left))) [
            | inl has ↦
                let item = subst (λ (xs : List Item). Contains xs (rebuild_of s)) (sym b.is) (rebuild-has b.stripes s has) in
                not-so _ (asked-are c d l.0.0 l.0.1 (unlost none) rebuild at most fills s l.1.within l.1.of_column item) l.1.left
            | inr all ↦ ap (λ (xs : List Item). length xs) b.is ∙ (length-map b.stripes rebuild_of ∙ (all ∙ of.1))
          ]

  pub far : closed.lost ≡ None → OneRebuilds p.now → (c d n most : ℕ) → FillsBy how c most → slice_get closed.columns.items c ≡ Some (set.Filling d n) → SpreadAlike (begun_in lay setup how) p.now.columns → n ≡ done_before how setup.columns.items c + most
  far none one c d n most fills is alike =
      let l = left-now c d n most fills is in
      let kept = unlost none in
      let s = l.1.stripe in
      let opening = alike-first c most fills alike in
      let of : is_stripe_of (shape_in lay setup) p.start.columns c s ≡ true =
      sym (stripe-same (shape_in lay setup) (are_spread p.now.columns) (are_spread p.start.columns) c s opening) ∙ (stripe-of (shape_in lay setup) p.now.columns c s).1 l.1.of_column in
      let was = was-as c d l.0.0 l.0.1 kept how refl most fills in
      let before = led-before c d l.0.0 l.0.1 kept was s l.1.within of (left-before c d l.0.0 l.0.1 kept s l.1.left) in
      let many : p.count ≡ most = sym p.many ∙ paused none c d n most fills is in
      l.2 ∙ (grown c d l.0.0 l.0.1 kept was one opening most fills many ∙ ap (λ k. k + most) before)
