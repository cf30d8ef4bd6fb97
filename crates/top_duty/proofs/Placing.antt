-- Where the columns of an array that was opened by its newest label are.
use Rattle.std.proofs.Common.{◌≡◌, ◌∙◌, ap, sym, subst, ℕ, ◌+◌, ◌-◌, ◌<◌, ◌≤◌, ◌==◌, ◌&&◌, Bool, true, false, List, [], length, refl, arith, inl, inr, Option, Some, None}
use Rattle.std.specs.Prelude.{◌⊎◌, slice_get, slice_index, slice_index_or, if◌then◌else◌, Result, Ok, Err, not, nat_le}
use Rattle.std.proofs.lemmas.Bool.{eq-eqb}
use Rattle.std.proofs.lemmas.Option.{slice_get_within}
use Rattle.eng_cols.specs.declared.column.Column.{Column}
use Rattle.eng_cols.specs.declared.column.Column.TheVariants as column
use Rattle.raid_label.specs.declared.label.Label.{Label}
use Rattle.top_open.specs.declared.fault.OpenFault.{OpenFault}
use Rattle.top_open.specs.declared.fronts.Front.{Front}
use Rattle.top_open.specs.declared.plan.Plan.{Plan}
use Rattle.top_open.specs.declared.plan.Needs.{Needs}
use Rattle.top_open.specs.First.{first_below}
use Rattle.top_open.specs.Plan.{is_present, sectors_for}
use Rattle.top_open.specs.Labels.{label_at, shape_refusal}
use Rattle.top_open.specs.Seats.{columns_below, is_same, is_sound, judged_at, seat_of, sized_device, small_at}
use Rattle.top_open.specs.Steps.{is_spread_below, kept_if_sound, seat_at, small_refusal}
use Rattle.top_open.specs.Opening.{Opened, columns_in, counter_refusal, floored, labelled_in, seats_in, small_in}
use Rattle.top_open.proofs.Below.{length-columns_below}
use Rattle.top_open.proofs.LargeEnough.{columns_of, get_there, large, no_refusal, none_below, rows_of}
use Rattle.top_open.proofs.OwnDevices.{columns_below-get, not_refused}
use Rattle.top_duty.proofs.Shaped.{shape_columns}

unfoldable seats_of : Result Opened OpenFault → List Column
seats_of (Ok x) = x.seats
seats_of (Err f) = []

unfoldable pub newest_of : Result Opened OpenFault → Option Label
newest_of (Ok x) = x.newest
newest_of (Err f) = None

seat_live : (p : Plan) (present : List Bool) (n c d : ℕ) (spread : Bool) (seat : ℕ) → seat_of p present n c spread seat ≡ column.Live d → (d ≡ c) ⊎ (n ≤ d)
unfolding seat_of
seat_live p present n c d spread seat h = go (seat == 0) (seat == 254) (is_present present c) (p.level == 68 && not spread) (nat_le seat p.spares) h
  where
    go : (a b there e f : Bool) → (if a then (if there then column.Live c else column.Dead) else (if b then (if e then column.Spread else column.Dead) else (if f then column.Live (n + (seat - 1)) else column.Dead))) ≡ column.Live d
        → (d ≡ c) ⊎ (n ≤ d)
    go true b true e f h = inl cc
    go true b false e f h = cc
    go false true there true f h = cc
    go false true there false f h = cc
    go false false there e false h = cc
    go false false there e true h = let is : n + (seat - 1) ≡ d = cc in inr (omega (arith, is))

kept_live : (newest : Label) (fronts : List Front) (c d : ℕ) (seat : Column) → kept_if_sound newest fronts c seat ≡ column.Live d → seat ≡ column.Live d
kept_live newest fronts c d (column.Live e) h = go (is_sound newest c (label_at fronts e)) h
  where
    go : (b : Bool) → (if b then column.Live e else column.Dead) ≡ column.Live d → column.Live e ≡ column.Live d
    go true h = h
    go false h = cc
kept_live newest fronts c d column.Dead h = cc
kept_live newest fronts c d (column.Filling e m) h = cc
kept_live newest fronts c d column.Spread h = cc

module _ (q : Needs) (p : Plan) (present : List Bool) (sizes : List ℕ) (fronts : List Front) (l : Label) (o : Opened) (h : labelled_in q p present sizes fronts l ≡ Ok o) where
  abbrev seats : List Column
  seats = seats_in p present l

  abbrev n : ℕ
  n = length present

  -- what it is made of
  made : ◌≡◌ {A = Result Opened OpenFault} (Ok (record { rows = l.rows; seats = seats; columns = columns_in (floored q.adopts l) fronts seats; newest = Some l })) (Ok o)
  unfolding labelled_in
  made = not_refused (counter_refusal q l) _ o (not_refused (first_below (judged_at q.excused l fronts seats) n) _ o (not_refused (small_in q.excused q.own sizes (sectors_for p l.rows) seats n) _ o (not_refused (shape_refusal p n l) _ o h)))

  none_small : small_in q.excused q.own sizes (sectors_for p l.rows) seats n ≡ None
  unfolding labelled_in
  none_small = no_refusal _ _ o (not_refused (shape_refusal p n l) _ o h)

  pub made_newest : o.newest ≡ Some l
  unfolding newest_of
  made_newest = sym (ap newest_of made)

  -- its label is one of an array of so many columns
  pub made_columns : l.columns ≡ n
  unfolding labelled_in
  made_columns = shape_columns p n l (no_refusal (shape_refusal p n l) _ o h)

  seats_are : seats ≡ o.seats
  unfolding seats_of
  seats_are = ap seats_of made

  -- a live column has its seat's device
  pub live_seat : (c d : ℕ) → slice_get o.columns c ≡ Some (column.Live d) → slice_get o.seats c ≡ Some (column.Live d)
  unfolding columns_in columns_of
  live_seat c d here =
      let f : ℕ → Column = λ i. kept_if_sound (floored q.adopts l) fronts i (slice_index_or seats i column.Dead) in
      let cols : columns_below f (length seats) ≡ o.columns = ap columns_of made in
      let there : slice_get (columns_below f (length seats)) c ≡ Some (column.Live d) = ap (λ (s : List Column). slice_get s c) cols ∙ here in
      let inside : c < length seats = omega (arith, slice_get_within (columns_below f (length seats)) c (column.Live d) there, length-columns_below f (length seats)) in
      let seat : slice_get seats c ≡ Some (column.Live d) = get_there seats c (column.Live d) inside (kept_live (floored q.adopts l) fronts c d _ (columns_below-get f (length seats) c (column.Live d) there)) in
      sym (ap (λ (s : List Column). slice_get s c) seats_are) ∙ seat

  -- which is its own disk, or a spare behind the columns
  pub live_own : (c d : ℕ) → slice_get o.columns c ≡ Some (column.Live d) → (d ≡ c) ⊎ (n ≤ d)
  unfolding seats_in
  live_own c d here =
      let at : slice_get seats c ≡ Some (column.Live d) = ap (λ (s : List Column). slice_get s c) seats_are ∙ live_seat c d here in
      seat_live p present n c d (is_spread_below l c) (slice_index l.seats c) (columns_below-get (seat_at p present n l) n c (column.Live d) at)

  -- the own disk of the column that is rebuilt in place is large enough
  pub own_large : (c : ℕ) → q.own ≡ true → q.excused ≡ Some c → c < n → sectors_for p o.rows ≤ slice_index sizes c
  unfolding small_in small_at rows_of
  own_large c own excused lt =
      let rows : l.rows ≡ o.rows = ap rows_of made in
      let same : is_same q.excused c ≡ true = ap (λ (e : Option ℕ). is_same e c) excused ∙ eq-eqb c c refl in
      let none = none_below (small_at q.excused q.own sizes (sectors_for p l.rows) seats) n c none_small lt in
      let sized : sized_device (is_same q.excused c) q.own c (slice_get seats c) ≡ Some c =
      ap (λ (b : Bool). sized_device b q.own c (slice_get seats c)) same ∙ ap (λ (b : Bool). sized_device true b c (slice_get seats c)) own in
      subst (λ (r : ℕ). sectors_for p r ≤ slice_index sizes c) rows
      (large sizes (sectors_for p l.rows) c c (sym (ap (λ (e : Option ℕ). small_refusal sizes (sectors_for p l.rows) c e) sized) ∙ none))
