-- The device of a column of an opening is its own disk, or a spare.
use Rattle.std.proofs.Common.{◌≡◌, ◌∙◌, ap, sym, ℕ, ◌+◌, ◌-◌, ◌<◌, ◌≤◌, ◌==◌, ◌&&◌, Bool, true, false, List, length, refl, arith, inl, inr, Option, Some, None}
use Rattle.std.specs.Prelude.{slice_get, slice_index, slice_index_or, if◌then◌else◌, Ok, not, nat_le}
use Rattle.std.proofs.lemmas.Bool.{eqb-false, leb-true}
use Rattle.std.proofs.lemmas.Option.{slice_get_within}
use Rattle.eng_cols.specs.declared.column.Column.{Column}
use Rattle.eng_cols.specs.declared.column.Column.TheVariants as column
use Rattle.eng_cols.specs.Cols.{device_set}
use Rattle.raid_label.specs.declared.label.Label.{Label}
use Rattle.top_open.specs.declared.fronts.Front.{Front}
use Rattle.top_open.specs.declared.plan.Plan.{Plan}
use Rattle.top_open.specs.declared.plan.Needs.{Needs}
use Rattle.top_open.specs.First.{first_below}
use Rattle.top_open.specs.Plan.{is_present, sectors_for}
use Rattle.top_open.specs.Labels.{label_at, newest_below, shape_refusal}
use Rattle.top_open.specs.Seats.{columns_below, is_sound, judged_at, seat_of}
use Rattle.top_open.specs.Opening.{Opened, columns_in, counter_refusal, floored, judged_in, labelled_in, opened_in, seats_in, small_in, unlabelled_in, unlabelled_refusal}
use Rattle.top_open.specs.Steps.{is_unlabelled, labelled_if, is_spread_below, kept_if_sound, read_disk, seat_at}
use Rattle.top_open.proofs.Below.{length-columns_below}
use Rattle.top_open.proofs.Filled.{live, was}
use Rattle.top_open.proofs.LargeEnough.{columns_of, get_there}
use Rattle.top_open.proofs.OwnDevices.{columns_below-get, not_refused, read_disk_is}
use Rattle.top_looks.specs.Laws.{IsOwnOrSpare}

seat_live : (p : Plan) (present : List Bool) (n c d : ℕ) (spread : Bool) (seat : ℕ) → seat_of p present n c spread seat ≡ column.Live d → IsOwnOrSpare n p.spares c d
unfolding seat_of
seat_live p present n c d spread seat h = go (seat == 0) refl (seat == 254) (is_present present c) (p.level == 68 && not spread) (nat_le seat p.spares) refl h
  where
    go : (a : Bool) → (seat == 0) ≡ a → (b there e f : Bool) → nat_le seat p.spares ≡ f
        → (if a then (if there then column.Live c else column.Dead) else (if b then (if e then column.Spread else column.Dead) else (if f then column.Live (n + (seat - 1)) else column.Dead))) ≡ column.Live d
        → IsOwnOrSpare n p.spares c d
    go true z b true e f g h = inl cc
    go true z b false e f g h = cc
    go false z true there true f g h = cc
    go false z true there false f g h = cc
    go false z false there e false g h = cc
    go false z false there e true g h =
        let is : n + (seat - 1) ≡ d = cc in
        let some : seat ≡ 0 → ⊥ = eqb-false seat 0 z in
        let few : seat ≤ p.spares = leb-true seat p.spares g in
        inr (omega (arith, is), omega (arith, is, some, few))

kept_live : (newest : Label) (fronts : List Front) (c d : ℕ) (seat : Column) → kept_if_sound newest fronts c seat ≡ column.Live d → seat ≡ column.Live d
kept_live newest fronts c d (column.Live e) h = go (is_sound newest c (label_at fronts e)) h
  where
    go : (b : Bool) → (if b then column.Live e else column.Dead) ≡ column.Live d → column.Live e ≡ column.Live d
    go true h = h
    go false h = cc
kept_live newest fronts c d column.Dead h = cc
kept_live newest fronts c d (column.Filling e m) h = cc
kept_live newest fronts c d column.Spread h = cc

of_labelled : (q : Needs) (p : Plan) (present : List Bool) (sizes : List ℕ) (fronts : List Front) (l : Label) (o : Opened) → labelled_in q p present sizes fronts l ≡ Ok o
    → (c d : ℕ) → slice_get o.columns c ≡ Some (column.Live d) → IsOwnOrSpare (length present) p.spares c d
unfolding labelled_in columns_in columns_of seats_in
of_labelled q p present sizes fronts l o h c d here =
    let n = length present in
    let seats = columns_below (seat_at p present n l) n in
    let made = not_refused (counter_refusal q l) _ o (not_refused (first_below (judged_at q.excused l fronts seats) n) _ o (not_refused (small_in q.excused q.own sizes (sectors_for p l.rows) seats n) _ o (not_refused (shape_refusal p n l) _ o h))) in
    let f : ℕ → Column = λ i. kept_if_sound (floored q.adopts l) fronts i (slice_index_or seats i column.Dead) in
    let cols : columns_below f (length seats) ≡ o.columns = ap columns_of made in
    let there : slice_get (columns_below f (length seats)) c ≡ Some (column.Live d) = ap (λ (s : List Column). slice_get s c) cols ∙ here in
    let inside : c < length seats = omega (arith, slice_get_within (columns_below f (length seats)) c (column.Live d) there, length-columns_below f (length seats)) in
    let seat : slice_get seats c ≡ Some (column.Live d) = get_there seats c (column.Live d) inside (kept_live (floored q.adopts l) fronts c d _ (columns_below-get f (length seats) c (column.Live d) there)) in
    seat_live p present n c d (is_spread_below l c) (slice_index l.seats c) (columns_below-get (seat_at p present n l) n c (column.Live d) seat)

of_unlabelled : (q : Needs) (p : Plan) (present : List Bool) (sizes : List ℕ) (fronts : List Front) (o : Opened) → unlabelled_in q p present sizes fronts ≡ Ok o
    → (c d : ℕ) → slice_get o.columns c ≡ Some (column.Live d) → d ≡ c
unfolding unlabelled_in columns_of
of_unlabelled q p present sizes fronts o h c d here =
    let made = not_refused (small_in None false sizes _ _ _) _ o (not_refused (unlabelled_refusal q) _ o h) in
    let cols : columns_below (read_disk present fronts) (length present) ≡ o.columns = ap columns_of made in
    sym (read_disk_is present fronts c d (columns_below-get (read_disk present fronts) (length present) c (column.Live d) (ap (λ (s : List Column). slice_get s c) cols ∙ here)))

own_judged : (q : Needs) (p : Plan) (present : List Bool) (sizes : List ℕ) (fronts : List Front) (o : Opened) → judged_in q p present sizes fronts ≡ Ok o
    → (c d : ℕ) → slice_get o.columns c ≡ Some (column.Live d) → IsOwnOrSpare (length present) p.spares c d
unfolding judged_in
own_judged q p present sizes fronts o h c d here = go (is_unlabelled q (length present) fronts) (newest_below fronts (length fronts)) h
  where
    go : (b : Bool) (l : Option Label) → (if b then unlabelled_in q p present sizes fronts else labelled_if q p present sizes fronts l) ≡ Ok o → IsOwnOrSpare (length present) p.spares c d
    go true l h = inl (of_unlabelled q p present sizes fronts o h c d here)
    go false None h = cc
    go false (Some l) h = of_labelled q p present sizes fronts l o h c d here

pub own_or_spare : (q : Needs) (p : Plan) (present : List Bool) (sizes : List ℕ) (fronts : List Front) (o : Opened) → opened_in q p present sizes fronts ≡ Ok o
    → (c d : ℕ) → device_set (slice_get o.columns c) ≡ Some d → IsOwnOrSpare (length present) p.spares c d
own_or_spare q p present sizes fronts o h c d has =
    let w = was q p present sizes fronts o h in
    own_judged q p present sizes fronts w.judged w.is c d (live q p present sizes fronts o h c d has)
