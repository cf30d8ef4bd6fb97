-- An opening that adopts finds the columns of the round by whose label it goes.
use Rattle.std.proofs.Common.{◌≡◌, ◌∙◌, ap, sym, subst, ℕ, zero, suc, ◌+◌, ◌-◌, ◌<◌, ◌≤◌, ◌==◌, ◌&&◌, ◌⊎◌, inl, inr, Bool, true, false, List, [], ◌∷◌, length, refl, arith, Option, Some, None, option_map}
use Rattle.std.specs.Prelude.{if◌then◌else◌, is_none, nat_le, slice_get, slice_index, slice_index_or, slice_set, Result, Ok, Err, unwrap_or}
use Rattle.std.proofs.lemmas.Bool.{cases_eq, ne_eqb, eq-eqb, le-leb}
use Rattle.std.proofs.lemmas.Option.{slice_get_within, slice_get_past}
use Rattle.eng_cols.specs.declared.column.Column.{Column}
use Rattle.eng_cols.specs.declared.column.Column.TheVariants as column
use Rattle.eng_cols.specs.Cols.{HasDeviceOn, device_set, is_set_filling}
use Rattle.eng_cols.proofs.Lists.{get_set_other}
use Rattle.raid_label.specs.declared.label.Label.{Label}
use Rattle.raid_label.specs.declared.fault.LabelFault.{LabelFault}
use Rattle.raid_label.specs.Judged.{fault_in}
use Rattle.top_open.specs.declared.fronts.Front.{Front}
use Rattle.top_open.specs.declared.fault.OpenFault.{OpenFault}
use Rattle.top_open.specs.declared.plan.Needs.{Needs}
use Rattle.top_open.specs.declared.plan.Plan.{Plan}
use Rattle.top_open.specs.First.{first_below}
use Rattle.top_open.specs.Labels.{label_at, newest_below, shape_refusal}
use Rattle.top_open.specs.Plan.{IsPlan, sectors_for}
use Rattle.top_open.specs.Seats.{columns_below, is_sound, judged_at}
use Rattle.top_open.specs.Opening.{Opened, columns_in, counter_refusal, filled_by, floored, judged_in, labelled_in, opened_in, seats_in, small_in, unlabelled_in, unlabelled_refusal, with_filling}
use Rattle.top_open.specs.Steps.{as_filled, filling_of, is_unlabelled, kept_if_sound, labelled_if, seat_at}
use Rattle.top_open.proofs.Below.{length-columns_below}
use Rattle.top_open.proofs.Filled.{WasJudged, was-judged, entries}
use Rattle.top_open.proofs.LargeEnough.{columns_below-at}
use Rattle.top_open.proofs.OwnDevices.{not_refused}
use Rattle.top_rounds.specs.Labels.{Seating, done_in, filling_from, seating_in, seating_of}
use Rattle.raid_adopt.specs.Found.{AreReopened, HaveLabels, IsRound, reopened}
use Rattle.raid_adopt.specs.Rounds.{IsOf}
use Rattle.raid_adopt.proofs.Placed.{seated, unfilled}

-- ## A label of whatever round is sound

is-sound : (l own : Label) (c : ℕ) → IsOf l c own → is_sound (floored true l) c (Some own) ≡ true
unfolding fault_in
is-sound l own c of = rw of (le-leb 0 own.counter (omega arith))

-- ## The column that is filling

-- where it stands
data Fills (xs : List Column) (i : ℕ) : Type 0 where
  none : ((k d m : ℕ) → slice_get xs k ≡ Some (column.Filling d m) → ⊥) → filling_from xs i ≡ 0 → Fills xs i
  some : (k d m : ℕ) → slice_get xs k ≡ Some (column.Filling d m) → filling_from xs i ≡ i + k + 1 → done_in xs ≡ m → Fills xs i

fills : (xs : List Column) (i : ℕ) → Fills xs i
fills [] i = none (λ k d m h. cc h) refl
fills (x ∷ xs) i = go x (fills xs (suc i))
  where
    skip : (x : Column) → is_set_filling x ≡ false → ((d m : ℕ) → x ≡ column.Filling d m → ⊥) → filling_from (x ∷ xs) i ≡ filling_from xs (suc i) → done_in (x ∷ xs) ≡ done_in xs → Fills xs (suc i) → Fills (x ∷ xs) i
    skip x isnt not from done (none all zero-is) = none (λ k d m. at k d m) (from ∙ zero-is)
      where
        at : (k d m : ℕ) → slice_get (x ∷ xs) k ≡ Some (column.Filling d m) → ⊥
        at zero d m h = not d m (let s : Some x ≡ Some (column.Filling d m) = h in cc)
        at (suc k) d m h = all k d m h
    skip x isnt not from done (some k d m at is m-is) = some (suc k) d m at (omega (arith, from, is)) (done ∙ m-is)

    go : (x : Column) → Fills xs (suc i) → Fills (x ∷ xs) i
    go (column.Live d) f = skip (column.Live d) refl (λ e m h. cc h) refl refl f
    go column.Dead f = skip column.Dead refl (λ e m h. cc h) refl refl f
    go (column.Filling d m) f = some 0 d m refl (omega arith) refl
    go column.Spread f = skip column.Spread refl (λ e m h. cc h) refl refl f

-- what stands in the place that is set
set-here : (xs : List Column) (c : ℕ) (w x : Column) → slice_get xs c ≡ Some w → slice_get (slice_set xs c x) c ≡ Some x
set-here [] c w x h = cc h
set-here (z ∷ xs) zero w x h = refl
set-here (z ∷ xs) (suc c) w x h = set-here xs c w x h

index-of : (xs : List Column) (c : ℕ) (x : Column) → slice_get xs c ≡ Some x → slice_index_or xs c column.Dead ≡ x
index-of [] c x h = cc h
index-of (z ∷ xs) zero x h = cc h
index-of (z ∷ xs) (suc c) x h = index-of xs c x h

made-there : (f : ℕ → Column) (n c : ℕ) → c < n → slice_index_or (columns_below f n) c column.Dead ≡ f c
made-there f n c lt = index-of (columns_below f n) c (f c) (columns_below-at f n c lt)

past : (xs : List Column) (c : ℕ) → slice_get xs c ≡ None → length xs ≤ c
past [] c h = omega arith
past (x ∷ xs) zero h = cc h
past (x ∷ xs) (suc c) h = omega (arith, past xs c h)

-- one that isn't filling is opened as it was
plain-reopened : (l : Label) (x : Column) → ((d m : ℕ) → x ≡ column.Filling d m → ⊥) → unfilled x ≡ reopened l x
plain-reopened l (column.Live d) not = refl
plain-reopened l column.Dead not = refl
plain-reopened l (column.Filling d m) not = absurd (not d m refl)
plain-reopened l column.Spread not = refl

module _ (p : Plan) (present : List Bool) (began : List Column) (l : Label) (round : IsRound p present began l) (opened : List Column)
    (are : (c : ℕ) (x : Column) → slice_get began c ≡ Some x → slice_get opened c ≡ Some (unfilled x)) where
  filling-is : l.filling ≡ filling_from began 0
  filling-is = ap (λ (s : Seating). s.filling) round.seating

  done-is : l.done ≡ done_in began
  done-is = ap (λ (s : Seating). s.done) round.seating

  with-there : (c : ℕ) (x : Column) → slice_get began c ≡ Some x → slice_get (with_filling l opened) c ≡ Some (reopened l x)
  unfolding with_filling
  with-there c x at = go (fills began 0)
    where
      go : Fills began 0 → slice_get (if l.filling == 0 then opened else slice_set opened (l.filling - 1) (filling_of l (slice_index_or opened (l.filling - 1) column.Dead))) c ≡ Some (reopened l x)
      go (none all zero-is) =
          rw (eq-eqb l.filling 0 (filling-is ∙ zero-is)) (are c x at ∙ ap Some (plain-reopened l x (λ d m e. all c d m (at ∙ ap Some e))))
      go (some k d m there is done) =
          let not : (l.filling == 0) ≡ false = ne_eqb l.filling 0 (λ e. omega (arith, e, filling-is, is)) in
          let place : l.filling - 1 ≡ k = omega (arith, filling-is, is) in
          let was : slice_get opened k ≡ Some (column.Live d) = are k (column.Filling d m) there in
          let value : filling_of l (slice_index_or opened k column.Dead) ≡ reopened l (column.Filling d m) =
          ap (filling_of l) (index-of opened k (column.Live d) was) ∙ ap (λ (n : ℕ). if l.clean == 1 then column.Filling d n else column.Dead) (done-is ∙ done) in
          rw (not, place) (elim (cases_eq c k) [
            | inl same ↦
                let mine : Some x ≡ Some (column.Filling d m) = sym at ∙ (ap (slice_get began) same ∙ there) in
                let is-filling : x ≡ column.Filling d m = cc mine in
                ap (slice_get (slice_set opened k (filling_of l (slice_index_or opened k column.Dead)))) same
                ∙ (set-here opened k (column.Live d) (filling_of l (slice_index_or opened k column.Dead)) was
                ∙ ap Some (value ∙ ap (reopened l) (sym is-filling)))
            | inr ne ↦
                get_set_other opened k c (filling_of l (slice_index_or opened k column.Dead)) ne
                ∙ (are c x at ∙ ap Some (plain-reopened l x (λ e n f. ne (round.filling c k e d n m (at ∙ ap Some f) there))))
          ])

-- ## How it was judged

unfoldable rows_of : Result Opened OpenFault → ℕ
rows_of (Ok x) = x.rows
rows_of (Err f) = 0

unfoldable columns_of : Result Opened OpenFault → List Column
columns_of (Ok x) = x.columns
columns_of (Err f) = []

unfoldable newest_of : Result Opened OpenFault → Option Label
newest_of (Ok x) = x.newest
newest_of (Err f) = None

module _ (q : Needs) (p : Plan) (present : List Bool) (sizes : List ℕ) (fronts : List Front) (o : Opened) where
  abbrev width : ℕ
  width = length present

  -- how it is judged by this label
  by-label : (k : Label) → labelled_in q p present sizes fronts k ≡ Ok o → (k.rows ≡ o.rows) × (columns_in (floored q.adopts k) fronts (seats_in p present k) ≡ o.columns) × (Some k ≡ o.newest)
  unfolding labelled_in rows_of columns_of newest_of
  by-label k h =
      let made = not_refused (counter_refusal q k) _ o (not_refused (first_below (judged_at q.excused k fronts (seats_in p present k)) width) _ o
      (not_refused (small_in q.excused q.own sizes (sectors_for p k.rows) (seats_in p present k) width) _ o (not_refused (shape_refusal p width k) _ o h))) in
      (ap rows_of made, ap columns_of made, ap newest_of made)

  unlabelled-none : unlabelled_in q p present sizes fronts ≡ Ok o → None ≡ o.newest
  unfolding unlabelled_in newest_of
  unlabelled-none h = ap newest_of (not_refused (small_in None false sizes _ _ _) _ o (not_refused (unlabelled_refusal q) _ o h))

  pub by-newest : (l : Label) → judged_in q p present sizes fronts ≡ Ok o → o.newest ≡ Some l → (l.rows ≡ o.rows) × (columns_in (floored q.adopts l) fronts (seats_in p present l) ≡ o.columns)
  unfolding judged_in
  by-newest l h is = go (is_unlabelled q width fronts) (newest_below fronts (length fronts)) h
    where
      go : (b : Bool) (k : Option Label) → (if b then unlabelled_in q p present sizes fronts else labelled_if q p present sizes fronts k) ≡ Ok o → (l.rows ≡ o.rows) × (columns_in (floored q.adopts l) fronts (seats_in p present l) ≡ o.columns)
      go true k h = let none-is : None ≡ Some l = unlabelled-none h ∙ is in absurd (let u : ⊥ = cc in u)
      go false None h = cc h
      go false (Some k) h =
          let by = by-label k h in
          let twice : Some k ≡ Some l = by.2 ∙ is in
          let same : k ≡ l = cc twice in
          (ap (λ (x : Label). x.rows) (sym same) ∙ by.0, ap (λ (x : Label). columns_in (floored q.adopts x) fronts (seats_in p present x)) (sym same) ∙ by.1)

  -- its newest label is that of the fronts
  pub judged-newest : judged_in q p present sizes fronts ≡ Ok o → (k : Label) → o.newest ≡ Some k → newest_below fronts (length fronts) ≡ Some k
  unfolding judged_in
  judged-newest h k is = go (is_unlabelled q width fronts) (newest_below fronts (length fronts)) refl h
    where
      go : (b : Bool) (m : Option Label) → newest_below fronts (length fronts) ≡ m → (if b then unlabelled_in q p present sizes fronts else labelled_if q p present sizes fronts m) ≡ Ok o → newest_below fronts (length fronts) ≡ Some k
      go true m e h = let none-is : None ≡ Some k = unlabelled-none h ∙ is in absurd (let u : ⊥ = cc in u)
      go false None e h = cc h
      go false (Some m) e h = e ∙ ((by-label m h).2 ∙ is)

-- ## The opening

module _ (q : Needs) (p : Plan) (present : List Bool) (sizes : List ℕ) (fronts : List Front) (plan : IsPlan p) (adopts : q.adopts ≡ true)
    (began : List Column) (l : Label) (round : IsRound p present began l) (have : HaveLabels began l fronts) where
  abbrev n : ℕ
  n = length present

  abbrev seats : List Column
  seats = seats_in p present l

  -- a column that has a device keeps it
  kept : (c : ℕ) (x : Column) → slice_get began c ≡ Some x → kept_if_sound (floored q.adopts l) fronts c (unfilled x) ≡ unfilled x
  kept c x at = go x at
    where
      sound : (d : ℕ) → HasDeviceOn began c d → is_sound (floored q.adopts l) c (label_at fronts d) ≡ true
      sound d on =
          let own = have c d on in
          ap (λ (b : Bool). is_sound (floored b l) c (label_at fronts d)) adopts
          ∙ (ap (is_sound (floored true l) c) own.1 ∙ is-sound l own.0 c own.2)

      device : (d : ℕ) → HasDeviceOn began c d → (if is_sound (floored q.adopts l) c (label_at fronts d) then column.Live d else column.Dead) ≡ column.Live d
      device d on = ap (λ (b : Bool). if b then column.Live d else column.Dead) (sound d on)

      go : (x : Column) → slice_get began c ≡ Some x → kept_if_sound (floored q.adopts l) fronts c (unfilled x) ≡ unfilled x
      go (column.Live d) at = device d (ap device_set at)
      go column.Dead at = refl
      go (column.Filling d m) at = device d (ap device_set at)
      go column.Spread at = refl

  columns-are : (c : ℕ) (x : Column) → slice_get began c ≡ Some x → slice_get (columns_in (floored q.adopts l) fronts seats) c ≡ Some (unfilled x)
  unfolding columns_in seats_in
  columns-are c x at =
      let inside : c < n = omega (arith, slice_get_within began c x at, round.count) in
      let theirs = columns_below (seat_at p present n l) n in
      let f : ℕ → Column = λ i. kept_if_sound (floored q.adopts l) fronts i (slice_index_or theirs i column.Dead) in
      let many : length theirs ≡ n = length-columns_below (seat_at p present n l) n in
      columns_below-at f (length theirs) c (omega (arith, inside, many))
      ∙ ap Some (ap (kept_if_sound (floored q.adopts l) fronts c) (made-there (seat_at p present n l) n c inside ∙ seated p plan present began l round c x at)
      ∙ kept c x at)

  pub finds : (o : Opened) → opened_in q p present sizes fronts ≡ Ok o → o.newest ≡ Some l → (o.rows ≡ l.rows) × AreReopened l began o.columns
  finds o h newest =
      let j = was-judged q p present sizes fronts o h in
      let same-newest : j.judged.newest ≡ Some l = ap (λ (x : Opened). x.newest) j.filled ∙ newest in
      let by = by-newest q p present sizes fronts j.judged l j.is same-newest in
      let rows : j.judged.rows ≡ o.rows = ap (λ (x : Opened). x.rows) j.filled in
      let columns : with_filling l (columns_in (floored q.adopts l) fronts seats) ≡ o.columns =
      ap (λ (cs : List Column). filled_by (Some l) cs) by.1 ∙ (ap (λ (k : Option Label). filled_by k j.judged.columns) (sym same-newest) ∙ ap (λ (x : Opened). x.columns) j.filled) in
      (sym rows ∙ sym by.0, λ c. at o.columns columns (entries q p present sizes fronts o h) c)
    where
      at : (cs : List Column) → with_filling l (columns_in (floored q.adopts l) fronts seats) ≡ cs → length cs ≡ length present → (c : ℕ) → slice_get cs c ≡ option_map (reopened l) (slice_get began c)
      at cs e many c = go (slice_get began c) refl
        where
          go : (x : Option Column) → slice_get began c ≡ x → slice_get cs c ≡ option_map (reopened l) x
          go (Some x) is = ap (λ (s : List Column). slice_get s c) (sym e) ∙ with-there p present began l round (columns_in (floored q.adopts l) fronts seats) columns-are c x is
          go None is = slice_get_past cs c (omega (arith, many, round.count, past began c is))
