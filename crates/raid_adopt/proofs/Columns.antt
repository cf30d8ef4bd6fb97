-- The columns of an opening are such as a round may be begun with.
use Rattle.std.proofs.Common.{◌≡◌, ◌∙◌, ap, sym, ℕ, ◌+◌, ◌-◌, ◌<◌, ◌≤◌, ◌==◌, ◌&&◌, ◌⊎◌, inl, inr, Bool, true, false, List, length, refl, arith, Option, Some}
use Rattle.std.specs.Prelude.{if◌then◌else◌, nat_le, not, slice_get, slice_index, slice_index_or, Ok}
use Rattle.std.proofs.lemmas.Bool.{eqb-false, leb-true}
use Rattle.std.proofs.lemmas.Option.{slice_get_within}
use Rattle.eng_cols.specs.declared.column.Column.{Column}
use Rattle.eng_cols.specs.declared.column.Column.TheVariants as column
use Rattle.eng_cols.specs.Cols.{HasDeviceOn, device_set}
use Rattle.raid_label.specs.declared.label.Label.{Label}
use Rattle.top_open.specs.declared.fronts.Front.{Front}
use Rattle.top_open.specs.declared.plan.Needs.{Needs}
use Rattle.top_open.specs.declared.plan.Plan.{Plan}
use Rattle.top_open.specs.Labels.{label_at}
use Rattle.top_open.specs.Opening.{Opened, columns_in, floored, opened_in, seats_in}
use Rattle.top_open.specs.Plan.{is_present}
use Rattle.top_open.specs.Seats.{columns_below, is_sound, own_disk, seat_of as opened_seat}
use Rattle.top_open.specs.Steps.{is_spread_below, kept_if_sound, seat_at}
use Rattle.top_open.proofs.Below.{length-columns_below}
use Rattle.top_open.proofs.Filled.{was, live, spread, filling, entries}
use Rattle.top_open.proofs.LargeEnough.{get_there}
use Rattle.top_open.proofs.OneSpread.{one_spread}
use Rattle.top_open.proofs.OwnDevices.{columns_below-get, own_devices}
use Rattle.top_rounds.specs.Labels.{seating_in, seating_of}
use Rattle.raid_adopt.specs.Found.{IsConfigured, IsPlaced, IsRound}
use Rattle.raid_adopt.proofs.Reopening.{by-newest}

-- a seat's device is the column's own disk, which is there, or a spare
seat-placed : (p : Plan) (present : List Bool) (c : ℕ) (spread : Bool) (seat d : ℕ) → opened_seat p present (length present) c spread seat ≡ column.Live d → IsPlaced p present c d
unfolding opened_seat
seat-placed p present c spread seat d h = go (seat == 0) refl (seat == 254) (p.level == 68 && not spread) (nat_le seat p.spares) refl h
  where
    own : (b : Bool) → is_present present c ≡ b → (if b then column.Live c else column.Dead) ≡ column.Live d → IsPlaced p present c d
    own true e h = let same : c ≡ d = cc h in inl (sym same, e)
    own false e h = cc h

    go : (a : Bool) → (seat == 0) ≡ a → (b s t : Bool) → nat_le seat p.spares ≡ t
        → (if a then own_disk present c else (if b then (if s then column.Spread else column.Dead) else (if t then column.Live (length present + (seat - 1)) else column.Dead))) ≡ column.Live d → IsPlaced p present c d
    go true e b s t f h = own (is_present present c) refl h
    go false e true true t f h = cc h
    go false e true false t f h = cc h
    go false e false s false f h = cc h
    go false e false s true f h =
        let same : length present + (seat - 1) ≡ d = cc h in
        let few : seat ≤ p.spares = leb-true seat p.spares f in
        let some : seat ≡ 0 → ⊥ = eqb-false seat 0 e in
        inr (omega (arith, same), omega (arith, same, few, some))

-- a column that stays live has its seat's device
kept-seat : (l : Label) (fronts : List Front) (c d : ℕ) (seat : Column) → kept_if_sound l fronts c seat ≡ column.Live d → seat ≡ column.Live d
kept-seat l fronts c d (column.Live e) h = go (is_sound l c (label_at fronts e)) h
  where
    go : (b : Bool) → (if b then column.Live e else column.Dead) ≡ column.Live d → column.Live e ≡ column.Live d
    go true h = h
    go false h = cc h
kept-seat l fronts c d column.Dead h = cc h
kept-seat l fronts c d (column.Filling e m) h = cc h
kept-seat l fronts c d column.Spread h = cc h

module _ (q : Needs) (p : Plan) (present : List Bool) (sizes : List ℕ) (fronts : List Front) (o : Opened) (l : Label)
    (opens : opened_in q p present sizes fronts ≡ Ok o) (newest : o.newest ≡ Some l) where
  placed : (c d : ℕ) → HasDeviceOn o.columns c d → IsPlaced p present c d
  unfolding columns_in seats_in
  placed c d on =
      let n = length present in
      let j = was q p present sizes fronts o opens in
      let by = by-newest q p present sizes fronts j.judged l j.is (ap (λ (x : Opened). x.newest) j.filled ∙ newest) in
      let at : slice_get j.judged.columns c ≡ Some (column.Live d) = live q p present sizes fronts o opens c d on in
      let seats = columns_below (seat_at p present n l) n in
      let f : ℕ → Column = λ i. kept_if_sound (floored q.adopts l) fronts i (slice_index_or seats i column.Dead) in
      let there : slice_get (columns_below f (length seats)) c ≡ Some (column.Live d) = ap (λ (cs : List Column). slice_get cs c) by.1 ∙ at in
      let inside : c < length seats = omega (arith, slice_get_within (columns_below f (length seats)) c (column.Live d) there, length-columns_below f (length seats)) in
      let seat : slice_get seats c ≡ Some (column.Live d) = get_there seats c (column.Live d) inside (kept-seat (floored q.adopts l) fronts c d (slice_index_or seats c column.Dead) (columns_below-get f (length seats) c (column.Live d) there)) in
      seat-placed p present c (is_spread_below l c) (slice_index l.seats c) d (columns_below-get (seat_at p present n l) n c (column.Live d) seat)

  spreads : (c k : ℕ) → slice_get o.columns c ≡ Some column.Spread → slice_get o.columns k ≡ Some column.Spread → (c ≡ k) × (p.level ≡ 68)
  spreads c k one two =
      let j = was q p present sizes fronts o opens in
      one_spread q p present sizes fronts j.judged j.is c k (spread q p present sizes fronts o opens c one) (spread q p present sizes fronts o opens k two)

  configured : (c : ℕ) (x : Column) → slice_get o.columns c ≡ Some x → IsConfigured p present c x
  configured c (column.Live d) at = placed c d (ap device_set at)
  configured c column.Dead at = tt
  configured c (column.Filling d m) at = placed c d (ap device_set at)
  configured c column.Spread at = (spreads c c at at).1

  one-filling : (c k d e m n : ℕ) → slice_get o.columns c ≡ Some (column.Filling d m) → slice_get o.columns k ≡ Some (column.Filling e n) → c ≡ k
  one-filling c k d e m n one two =
      let a = filling q p present sizes fronts o opens c d m one in
      let b = filling q p present sizes fronts o opens k e n two in
      let twice : Some a.0 ≡ Some b.0 = sym a.1 ∙ b.1 in
      let same : a.0 ≡ b.0 = cc twice in
      omega (arith, a.2, b.2, ap (λ (x : Label). x.filling) same)

  pub is-round : (r : Label) → length present ≤ 32 → seating_in r ≡ seating_of o.columns → IsRound p present o.columns r
  is-round r few seating = record {
    seating = seating;
    count = entries q p present sizes fronts o opens;
    most = omega (arith, few, entries q p present sizes fronts o opens);
    configured = configured;
    apart = λ c k d one two. let j = was q p present sizes fronts o opens in own_devices q p present sizes fronts j.judged j.is c k d (live q p present sizes fronts o opens c d one) (live q p present sizes fronts o opens k d two);
    filling = one-filling;
    spread = λ c k one two. (spreads c k one two).0;
  }
