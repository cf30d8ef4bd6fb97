-- A rebuild that is done makes its column whole.
use Rattle.std.proofs.Common.{◌≡◌, ◌≢◌, ◌⊎◌, inl, inr, ℕ, ◌<◌, List, true, false, Option, Some, None, slice_get, slice_set, refl, sym, ◌∙◌, ap, subst}
use Rattle.std.specs.Prelude.{◌==◌, ◌&&◌, ◌||◌, IsSome}
use Rattle.std.proofs.lemmas.Bool.{and_from, and_parts, cases_Bool, eq-eqb, or_left, or_right}
use Rattle.std.proofs.lemmas.List.{get_or-replicate}
use Rattle.blk_disk.specs.declared.disk.Disk.{Ghosts}
use Rattle.lay_core.specs.Layout.{Shape, IsLayout, SparesLieByUnits}
use Rattle.eng_cols.specs.declared.column.Column.{Column}
use Rattle.eng_cols.specs.declared.column.Column.TheVariants as set
use Rattle.eng_cols.specs.Cols.{ColumnState, Live, Dead, Filling, Spread, is_done, is_done_on, is_filling, is_set_filling, is_spread, passes}
use Rattle.eng_cols.specs.Laws.{AllAvailable, FilledAreWhole, HasSpares, OthersAvailable}
use Rattle.eng_cols.specs.Seats.{IsStripeOf, IsWhole, is_place_on, is_unit_of}
use Rattle.eng_cols.specs.Stripes.{filled_in}
use Rattle.eng_cols.proofs.Fewer.{states-at, states-spread}
use Rattle.eng_cols.proofs.Wholes.{any-death, whole-available}
use Rattle.eng_world.specs.World.{World}
use Rattle.eng_array.specs.Starts as starts
use Rattle.eng_array.specs.declared.start.Start.{Start}
use Rattle.eng_array.specs.declared.start.Start.TheVariants as start
use Rattle.top_close.specs.Closes.{FillingEnds, SpreadEnds}
use Rattle.top_close.proofs.ClosingLaws.{closing_dead}
use Rattle.top_serve.specs.Setups.{with_start}
use Rattle.top_serve.specs.Served.{IsKeptAs}
use Rattle.top_serve.proofs.Behind.{begun-set, unfilled}
use Rattle.top_serve.proofs.Closings.{not-whole, set-whole}
use Rattle.top_serve.proofs.Columns.{AreSet, SetIn, run-sets, set-states}
use Rattle.top_run.specs.Work.{Work, Service}
use Rattle.top_run.specs.Ran.{Ran}
use Rattle.top_run.specs.Rebuilding.{IsRebuilt, RebuildIsDone, IsWorth, kept_in}
use Rattle.top_run.proofs.Columns.{kept-filling, not-so}
use Rattle.top_run.proofs.Kept.{Begun, begun, filling-kept, kept-order, one-filling, spread-kept, spread-there, states-filling}
use Rattle.eng_cols.proofs.Words.{all_done}

all-is-done : (n s : ℕ) → s < n → is_done (all_done n) s ≡ true
all-is-done n s within = get_or-replicate n s true false within

rebuilt-unfilled : {A : Type 0} (o : Option Column) → IsRebuilt o → passes is_set_filling o ≡ true → A
rebuilt-unfilled None r h = absurd r
rebuilt-unfilled (Some (set.Live d)) r h = not-so false refl h
rebuilt-unfilled (Some set.Dead) r h = absurd r
rebuilt-unfilled (Some (set.Filling d m)) r h = absurd r
rebuilt-unfilled (Some set.Spread) r h = not-so false refl h

filling-unspread : {A : Type 0} (o : Option ColumnState) → passes is_filling o ≡ true → passes is_spread o ≡ true → A
filling-unspread None h other = not-so false refl h
filling-unspread (Some (Live d)) h other = not-so false refl h
filling-unspread (Some Dead) h other = not-so false refl h
filling-unspread (Some (Filling d done)) h other = not-so false refl other
filling-unspread (Some (Spread done)) h other = not-so false refl h

module _ {D : Type 0} (g : Ghosts D) (a : Work) (taken back : List (Option D)) (s : Service) (ran : Ran g a taken s back) (how : Start) (built : RebuildIsDone g a taken back s ran how) where
  abbrev y : Shape
  y = a.layout

  abbrev now : World
  now = ran.now

  abbrev c : ℕ
  c = starts.column_of how

  abbrev columns : List Column
  columns = ran.ends.kept

  abbrev mid : List ColumnState
  mid = ran.ends.closes.mid

  abbrev b : Begun g a taken back s ran
  b = begun g a taken back s ran

  not-dead : {A : Type 0} → slice_get columns c ≡ Some set.Dead → A
  not-dead dead = absurd (subst IsRebuilt dead built.1)

  -- ## The other columns

  other-spread : (k : ℕ) → k ≢ c → (j : ℕ) → a.start ≡ Some (start.Spread j) → k ≢ j
  other-spread k ne j is same =
      let z : Some how ≡ Some (start.Spread j) = sym built.0 ∙ is in
      let it : how ≡ start.Spread j = cc in
      ne (same ∙ sym (ap starts.column_of it))

  set-first : AreSet y.stripes ran.start.columns
  set-first = subst (AreSet y.stripes) (sym ran.opens.columns) (set-states y.stripes (filled_in y a.columns) a.columns)

  -- one that is spread at the run's end has each stripe done
  set-now : (k : ℕ) → k ≢ c → SetIn y.stripes (slice_get now.columns k)
  set-now k ne = run-sets y ran.graphs y.stripes b.world b.own now b.are_own b.rest k (begun-set y.stripes a.start ran.start.columns b.world.columns set-first b.columns k (other-spread k ne))

  -- so it is left as it was judged
  still-spread : (k : ℕ) → k ≢ c → passes is_spread (slice_get now.columns k) ≡ true → passes is_spread (slice_get mid k) ≡ true
  still-spread k ne h =
      let spread = spread-there (slice_get now.columns k) h in
      elim (subst (λ o. SpreadEnds y now.columns k o (slice_get mid k)) spread.1 (ran.ends.closes.spread k)) [
        | inl whole ↦ ap (passes is_spread) whole.1
        | inr left ↦ not-whole y now.columns k (set-whole y now.columns k spread.0 spread.1 (subst (SetIn y.stripes) spread.1 (set-now k ne))) left.0
      ]

  stripe-mid : (st : ℕ) → IsStripeOf y now.columns c st → IsStripeOf y mid c st
  stripe-mid st (i, within, unit) = (i, within, by (cases_Bool (c == (y.place st i).column)))
    where
      k : ℕ
      k = (y.place st i).column

      by : ((c == (y.place st i).column) ≡ true) ⊎ ((c == (y.place st i).column) ≡ false) → is_unit_of y mid st i c ≡ true
      by (inl here) = or_left (c == (y.place st i).column) _ here
      by (inr not) =
          let both = and_parts (passes is_spread (slice_get now.columns (y.place st i).column)) (is_place_on (y.spare st) c) (ap (λ b. b || (passes is_spread (slice_get now.columns (y.place st i).column) && is_place_on (y.spare st) c)) (sym not) ∙ unit) in
          let ne : (y.place st i).column ≢ c = λ same. let z : true ≡ false = sym (eq-eqb c (y.place st i).column (sym same)) ∙ not in let u : ⊥ = cc in u in
          or_right (c == (y.place st i).column) _ (and_from _ _ (still-spread (y.place st i).column ne both.0) both.1)

  -- ## The column

  whole-now : IsWhole y now.columns c
  whole-now = by (slice_get now.columns c) refl
    where
      by : (o : Option ColumnState) → slice_get now.columns c ≡ o → IsWhole y now.columns c
      by (Some (Live d)) e = λ st within of. ap (λ o. is_done_on o st) e
      by (Some Dead) e = not-dead (closing_dead y now.columns columns ran.ends.closes c e)
      by (Some (Filling d done)) e =
          let same : slice_get mid c ≡ Some (Filling d done) = subst (λ o. SpreadEnds y now.columns c o (slice_get mid c)) e (ran.ends.closes.spread c) in
          elim (subst (λ o. FillingEnds y mid c o (slice_get columns c)) same (ran.ends.closes.filling c)) [
            | inl whole ↦ λ st within of. ap (λ o. is_done_on o st) (e ∙ sym same) ∙ whole.0 st within (stripe-mid st of)
            | inr left ↦ absurd (subst IsRebuilt left.1 built.1)
          ]
      by (Some (Spread done)) e = elim (subst (λ o. SpreadEnds y now.columns c o (slice_get mid c)) e (ran.ends.closes.spread c)) [
        | inl whole ↦ whole.0
        | inr left ↦ not-dead (subst (λ o. FillingEnds y mid c o (slice_get columns c)) left.1 (ran.ends.closes.filling c))
      ]
      by None e =
          let gone : slice_get mid c ≡ None = subst (λ o. SpreadEnds y now.columns c o (slice_get mid c)) e (ran.ends.closes.spread c) in
          let none : slice_get columns c ≡ None = subst (λ o. FillingEnds y mid c o (slice_get columns c)) gone (ran.ends.closes.filling c) in
          absurd (subst IsRebuilt none built.1)

  kept-so : IsKeptAs (slice_get (with_start a.start a.columns) c) (slice_get columns c)
  kept-so = elim (ran.ends.came c) [ inl kept ↦ kept | inr dead ↦ not-dead dead.0 ]

  abbrev kept : List ColumnState
  kept = kept_in g a taken back s ran

  whole-kept : IsWhole y kept c
  whole-kept st within of = by (slice_get columns c) refl built.1
    where
      by : (o : Option Column) → slice_get columns c ≡ o → IsRebuilt o → is_done_on (slice_get kept c) st ≡ true
      by (Some (set.Live d)) e r = ap (λ o. is_done_on o st) (states-at y columns c (set.Live d) e)
      by (Some set.Spread) e r = ap (λ o. is_done_on o st) (states-at y columns c set.Spread e) ∙ all-is-done y.stripes st within
      by (Some set.Dead) e r = absurd r
      by (Some (set.Filling d m)) e r = absurd r
      by None e r = absurd r

  -- no column is kept filling: one that is is the one that was rebuilt
  none-filling : (k : ℕ) → passes is_set_filling (slice_get columns k) ≡ true → ⊥
  none-filling k h = by how refl
    where
      -- where the column was filling as the rebuild began
      here : passes is_filling (slice_get b.world.columns c) ≡ true → ⊥
      here fills =
          let same : k ≡ c = one-filling b.world.columns b.order k c (filling-kept g a taken back s ran k h) fills in
          rebuilt-unfilled (slice_get columns c) built.1 (ap (λ j. passes is_set_filling (slice_get columns j)) (sym same) ∙ h)

      started : (h : Start) → how ≡ h → a.start ≡ Some h
      started h is = built.0 ∙ ap (λ x. Some x) is

      by : (h : Start) → how ≡ h → ⊥
      by (start.Fill m d most) is = here (subst (λ x. passes is_filling (slice_get b.world.columns (starts.column_of x)) ≡ true) (sym is) (b.at (start.Fill m d most) (started (start.Fill m d most) is)))
      by (start.Resume m most) is = here (subst (λ x. passes is_filling (slice_get b.world.columns (starts.column_of x)) ≡ true) (sym is) (b.at (start.Resume m most) (started (start.Resume m most) is)))
      by (start.Spread m) is =
          let begins = started (start.Spread m) is in
          let none = unfilled a.columns (ran.rests.alone m begins) m k in
          elim (ran.ends.came k) [
            | inl kept ↦
                let was = kept-filling (slice_get (with_start a.start a.columns) k) (slice_get columns k) kept h in
                not-so (passes is_set_filling (slice_get (slice_set a.columns m set.Spread) k)) none (subst (λ x. passes is_set_filling (slice_get (with_start x a.columns) k) ≡ true) begins was)
            | inr dead ↦ not-so (passes is_set_filling (slice_get columns k)) (ap (passes is_set_filling) dead.0) h
          ]

  filled : FilledAreWhole y kept
  filled k d done is = absurd (none-filling k (states-filling y columns k d done is))

  -- a column that was rebuilt onto a device isn't spread
  spares : HasSpares y kept c
  spares st done is within = by how refl
    where
      world-spread : passes is_spread (slice_get b.world.columns c) ≡ true
      world-spread = spread-kept g a taken back s ran c (sym (states-spread y columns c) ∙ ap (passes is_spread) is)

      fills : {A : Type 0} → passes is_filling (slice_get b.world.columns c) ≡ true → A
      fills h = filling-unspread (slice_get b.world.columns c) h world-spread

      started : (h : Start) → how ≡ h → a.start ≡ Some h
      started h is = built.0 ∙ ap (λ x. Some x) is

      by : (h : Start) → how ≡ h → IsSome (y.spare st)
      by (start.Fill m d most) is = fills (subst (λ x. passes is_filling (slice_get b.world.columns (starts.column_of x)) ≡ true) (sym is) (b.at (start.Fill m d most) (started (start.Fill m d most) is)))
      by (start.Resume m most) is = fills (subst (λ x. passes is_filling (slice_get b.world.columns (starts.column_of x)) ≡ true) (sym is) (b.at (start.Resume m most) (started (start.Resume m most) is)))
      by (start.Spread m) is = b.at (start.Spread m) (started (start.Spread m) is) st within

  module _ (layout : IsLayout y) (units : SparesLieByUnits y) where
    all : OthersAvailable y kept c → AllAvailable y kept
    all others = whole-available y kept layout (kept-order g a taken back s ran) c units spares filled others whole-kept

    pub worth : IsWorth g a taken back s ran how
    worth = record {
      whole = whole-now;
      kept = kept-so;
      all = all;
      one_more = λ checked others k. any-death y kept k layout (kept-order g a taken back s ran) checked (all others);
    }
