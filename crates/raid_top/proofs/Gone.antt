-- The columns of a loss are gone in the end.
use Rattle.std.proofs.Common.{◌≡◌, ◌⊎◌, ◌∙◌, ℕ, zero, suc, ◌<◌, arith, List, length, Bool, true, false, Option, Some, None, refl, sym, ap, subst, inl, inr}
use Rattle.std.specs.Prelude.{count_by, slice_get, option_map, ◌==◌, IsSome}
use Rattle.std.proofs.lemmas.Bool.{and_from, or_left, or_right, eq-eqb}
use Rattle.std.proofs.lemmas.Option.{slice_get-get_or, slice_get-map}
use Rattle.lay_core.specs.declared.place.Place.{Place}
use Rattle.lay_core.specs.Layout.{Shape, IsLayout}
use Rattle.eng_cols.specs.declared.column.Column.{Column}
use Rattle.eng_cols.specs.declared.column.Column.TheVariants as column
use Rattle.eng_cols.specs.declared.spot.Loss.{Loss}
use Rattle.eng_cols.specs.Cols.{ColumnState, Live, Dead, Filling, Spread, is_done, is_done_on, is_set_filling, is_spread, passes, state_set}
use Rattle.eng_cols.specs.Lost.{IsLost}
use Rattle.eng_cols.specs.Seats.{stands_for, spare_stands, available_on, is_available, is_place_on, IsStripeOf, IsWhole}
use Rattle.top_close.specs.Closes.{SpreadEnds, FillingEnds, ClosesAs}
use Rattle.eng_cols.specs.Stripes.{filled_in, leading, states_of}
use Rattle.top_close.proofs.Counts.{none_passes}
use Rattle.top_close.proofs.LackingLaws.{min_or, max_or}
use Rattle.raid_top.specs.Losses.{IsLostByDead, IsLostOn}
use Rattle.raid_top.specs.Ordered.{AreOrdered}
use Rattle.eng_cols.proofs.Words.{all_done}

false_is : {A : Type 0} → false ≡ true → A
false_is h = absurd (let u : ⊥ = cc in u)

-- the column isn't live: not all of its units stand on a device
abbrev pub IsOut : List Column → ℕ → Type 0
IsOut cols c = (d : ℕ) → slice_get cols c ≡ Some (column.Live d) → ⊥

-- nor is that of the spare place, if there is one
abbrev pub IsSpareOut : List Column → Option Place → Type 0
IsSpareOut cols None = Unit {0}
IsSpareOut cols (Some p) = IsOut cols p.column

-- A unit of the stripe lies on the column and is missing: the column isn't live; and where it's spread, that of the stripe's spare place isn't.
pub record IsGone (y : Shape) (cols : List Column) (s c : ℕ) : Type 0 where
  pub unit : ℕ
  pub below : unit < y.width
  pub lies : (y.place s unit).column ≡ c
  pub out : IsOut cols c
  pub spare : slice_get cols c ≡ Some column.Spread → IsSpareOut cols (y.spare s)

-- so it is of both columns of a loss
pub record AreGone (y : Shape) (cols : List Column) (loss : Loss) : Type 0 where
  pub stripe : loss.stripe < y.stripes
  pub first : IsGone y cols loss.stripe loss.first
  pub second : IsGone y cols loss.stripe loss.second

-- ## Stripes of a column

-- a unit that lies on a column makes its stripe one of the column's
lies_on : (y : Shape) (cols : List ColumnState) (s i : ℕ) → i < y.width → IsStripeOf y cols (y.place s i).column s
lies_on y cols s i within = (i, within, or_left ((y.place s i).column == (y.place s i).column) _ (eq-eqb (y.place s i).column (y.place s i).column refl))

-- so does one that lies on a spread column and whose spare place lies there
spare_lies_on : (y : Shape) (cols : List ColumnState) (s i : ℕ) (p : Place) (done : List Bool) → i < y.width → slice_get cols (y.place s i).column ≡ Some (Spread done) → y.spare s ≡ Some p → IsStripeOf y cols p.column s
spare_lies_on y cols s i p done within spread e =
    (i, within, or_right (p.column == (y.place s i).column) _ (and_from _ _ (ap (passes is_spread) spread) (ap (λ o. is_place_on o p.column) e ∙ eq-eqb p.column p.column refl)))

-- what stands for a stripe has its units available
stands_available : (y : Shape) (cols : List ColumnState) (o : Option ColumnState) (s : ℕ) → stands_for o s ≡ true → available_on y cols o s ≡ true
stands_available y cols (Some (Live d)) s h = refl
stands_available y cols (Some (Filling d done)) s h = h
stands_available y cols (Some Dead) s h = false_is h
stands_available y cols (Some (Spread done)) s h = false_is h
stands_available y cols None s h = false_is h

-- ## One unit

-- By these columns a unit is missing. In the end, the stripe is one of a column's by `mid`; then a column that is live stood for it, and one that is spread was so, with the stripe done.
pub record Ends (y : Shape) (was mid : List ColumnState) (last : List Column) (s : ℕ) : Type 0 where
  pub live : (c d : ℕ) → IsStripeOf y mid c s → slice_get last c ≡ Some (column.Live d) → stands_for (slice_get was c) s ≡ true
  pub spread : (i : ℕ) → i < y.width → slice_get last (y.place s i).column ≡ Some column.Spread
      → (done : List Bool) × (slice_get mid (y.place s i).column ≡ Some (Spread done)) × (slice_get was (y.place s i).column ≡ Some (Spread done)) × (is_done done s ≡ true)

module _ (y : Shape) (was mid : List ColumnState) (last : List Column) (s i : ℕ) (ends : Ends y was mid last s) (within : i < y.width) (missing : is_available y was s i ≡ false) where
  abbrev c : ℕ
  c = (y.place s i).column

  never : available_on y was (slice_get was c) s ≡ true → ⊥
  never h = let z : true ≡ false = sym h ∙ missing in let u : ⊥ = cc in u

  spare_out : slice_get last c ≡ Some column.Spread → (o : Option Place) → y.spare s ≡ o → IsSpareOut last o
  spare_out is None e = tt
  spare_out is (Some p) e = λ d live.
      let sp = ends.spread i within is in
      let stands = ends.live p.column d (spare_lies_on y mid s i p sp.0 within sp.1 e) live in
      never (ap (λ o. available_on y was o s) sp.2
      ∙ and_from (is_done sp.0 s) (spare_stands was (y.spare s) s) sp.3 (ap (λ o. spare_stands was o s) e ∙ stands))

  pub is_gone : IsGone y last s (y.place s i).column
  is_gone = record {
    unit = i;
    below = within;
    lies = refl;
    out = λ d live. never (stands_available y was (slice_get was c) s (ends.live c d (lies_on y mid s i within) live));
    spare = λ is. spare_out is (y.spare s) refl;
  }

-- ## Both

-- both columns of a loss are gone
pub are_gone : (y : Shape) (was mid : List ColumnState) (last : List Column) (loss : Loss) → IsLost y was loss → Ends y was mid last loss.stripe → AreGone y last loss
are_gone y was mid last loss lost ends =
    let one = is_gone y was mid last loss.stripe lost.i ends lost.units.within.0 lost.units.missing.0 in
    let two = is_gone y was mid last loss.stripe lost.j ends lost.units.within.1 lost.units.missing.1 in
    record {
      stripe = lost.stripe;
      first = min_or (λ c. IsGone y last loss.stripe c) _ _ loss.first lost.first one two;
      second = max_or (λ c. IsGone y last loss.stripe c) _ _ loss.second lost.second one two;
    }

-- ## Columns as they are set

done_all : (n s : ℕ) → s < n → is_done (all_done n) s ≡ true
done_all zero s h = absurd (omega (arith, h))
done_all (suc n) zero h = refl
done_all (suc n) (suc s) h = done_all n s (omega (arith, h))

set_live : (y : Shape) (cols : List Column) (c d : ℕ) → slice_get cols c ≡ Some (column.Live d) → slice_get (states_of y cols) c ≡ Some (Live d)
set_live y cols c d h = slice_get-map (state_set y.stripes (filled_in y cols)) cols c ∙ ap (option_map (state_set y.stripes (filled_in y cols))) h

pub set_spread : (y : Shape) (cols : List Column) (c : ℕ) → slice_get cols c ≡ Some column.Spread → slice_get (states_of y cols) c ≡ Some (Spread (all_done y.stripes))
set_spread y cols c h = slice_get-map (state_set y.stripes (filled_in y cols)) cols c ∙ ap (option_map (state_set y.stripes (filled_in y cols))) h

set_ends : (y : Shape) (cols : List Column) (s : ℕ) → s < y.stripes → Ends y (states_of y cols) (states_of y cols) cols s
set_ends y cols s within = record {
  live = λ c d of h. ap (λ o. stands_for o s) (set_live y cols c d h);
  spread = λ i below h. (all_done y.stripes, set_spread y cols _ h, set_spread y cols _ h, done_all y.stripes s within);
}

-- of an array that is lost by columns as they are set, both are gone
pub set_are_gone : (y : Shape) (cols : List Column) (loss : Loss) → IsLost y (states_of y cols) loss → AreGone y cols loss
set_are_gone y cols loss lost = are_gone y (states_of y cols) (states_of y cols) cols loss lost (set_ends y cols loss.stripe lost.stripe)

-- ## Columns as a run ends with them

module _ (y : Shape) (was now : List ColumnState) (kept last : List Column) (closes : ClosesAs y now kept)
    (same : (c : ℕ) → (slice_get now c ≡ slice_get was c) ⊎ (slice_get now c ≡ Some Dead))
    (die : (c : ℕ) → (slice_get last c ≡ slice_get kept c) ⊎ (slice_get last c ≡ Some column.Dead)) (s : ℕ) (stripe : s < y.stripes) where
  -- what isn't dead in the end is what was kept
  still : (c : ℕ) (x : Column) → slice_get last c ≡ Some x → (x ≡ column.Dead → ⊥) → slice_get kept c ≡ Some x
  still c x h alive = elim (die c) [
    | inl e ↦ sym e ∙ h
    | inr dead ↦ absurd (alive (let z : Some x ≡ Some column.Dead = sym h ∙ dead in cc z))
  ]

  -- what stood in the run stood as the array was lost
  stood : (c : ℕ) (o : Option ColumnState) → slice_get now c ≡ o → stands_for o s ≡ true → stands_for (slice_get was c) s ≡ true
  stood c o e h = elim (same c) [
    | inl still ↦ ap (λ x. stands_for x s) (sym still ∙ e) ∙ h
    | inr dead ↦ false_is (ap (λ x. stands_for x s) (sym dead ∙ e) ∙ h)
  ]

  now_from : (c : ℕ) (o mid : Option ColumnState) → SpreadEnds y now c o mid → stands_for mid s ≡ true → stands_for o s ≡ true
  now_from c (Some (Live d)) mid ends h = refl
  now_from c (Some Dead) mid ends h = ap (λ x. stands_for x s) (sym ends) ∙ h
  now_from c (Some (Filling d done)) mid ends h = ap (λ x. stands_for x s) (sym ends) ∙ h
  now_from c (Some (Spread done)) mid ends h = elim ends [
    | inl whole ↦ ap (λ x. stands_for x s) (sym whole.1) ∙ h
    | inr left ↦ ap (λ x. stands_for x s) (sym left.1) ∙ h
  ]
  now_from c None mid ends h = ap (λ x. stands_for x s) (sym ends) ∙ h

  mid_stands : (c d : ℕ) (o : Option ColumnState) → slice_get closes.mid c ≡ o → IsStripeOf y closes.mid c s → FillingEnds y closes.mid c o (slice_get kept c) → slice_get kept c ≡ Some (column.Live d) → stands_for o s ≡ true
  mid_stands c d (Some (Live e)) is of ends h = refl
  mid_stands c d (Some Dead) is of ends h = let z : Some column.Dead ≡ Some (column.Live d) = sym ends ∙ h in absurd (let u : ⊥ = cc in u)
  mid_stands c d (Some (Filling e done)) is of ends h = elim ends [
    | inl whole ↦ ap (λ x. is_done_on x s) (sym is) ∙ whole.0 s stripe of
    | inr left ↦ let z : Some (column.Filling e (leading y closes.mid c)) ≡ Some (column.Live d) = sym left.1 ∙ h in absurd (let u : ⊥ = cc in u)
  ]
  mid_stands c d (Some (Spread done)) is of ends h = let z : Some column.Spread ≡ Some (column.Live d) = sym ends ∙ h in absurd (let u : ⊥ = cc in u)
  mid_stands c d None is of ends h = let z : None ≡ Some (column.Live d) = sym ends ∙ h in absurd (let u : ⊥ = cc in u)

  abbrev Spreads : ℕ → Type 0
  Spreads c = (done : List Bool) × (slice_get closes.mid c ≡ Some (Spread done))

  mid_spread : (c : ℕ) (o : Option ColumnState) → slice_get closes.mid c ≡ o → FillingEnds y closes.mid c o (slice_get kept c) → slice_get kept c ≡ Some column.Spread → Spreads c
  mid_spread c (Some (Live e)) is ends h = let z : Some (column.Live e) ≡ Some column.Spread = sym ends ∙ h in absurd (let u : ⊥ = cc in u)
  mid_spread c (Some Dead) is ends h = let z : Some column.Dead ≡ Some column.Spread = sym ends ∙ h in absurd (let u : ⊥ = cc in u)
  mid_spread c (Some (Filling e done)) is ends h = elim ends [
    | inl whole ↦ let z : Some (column.Live e) ≡ Some column.Spread = sym whole.1 ∙ h in absurd (let u : ⊥ = cc in u)
    | inr left ↦ let z : Some (column.Filling e (leading y closes.mid c)) ≡ Some column.Spread = sym left.1 ∙ h in absurd (let u : ⊥ = cc in u)
  ]
  mid_spread c (Some (Spread done)) is ends h = (done, is)
  mid_spread c None is ends h = let z : None ≡ Some column.Spread = sym ends ∙ h in absurd (let u : ⊥ = cc in u)

  -- a column that is spread in the end was, and is whole
  now_spread : (c : ℕ) (o mid : Option ColumnState) (done : List Bool) → slice_get now c ≡ o → SpreadEnds y now c o mid → mid ≡ Some (Spread done) → (slice_get now c ≡ Some (Spread done)) × IsWhole y now c
  now_spread c (Some (Live d)) mid done is ends e = let z : Some (Live d) ≡ Some (Spread done) = sym ends ∙ e in absurd (let u : ⊥ = cc in u)
  now_spread c (Some Dead) mid done is ends e = let z : Some Dead ≡ Some (Spread done) = sym ends ∙ e in absurd (let u : ⊥ = cc in u)
  now_spread c (Some (Filling d other)) mid done is ends e = let z : Some (Filling d other) ≡ Some (Spread done) = sym ends ∙ e in absurd (let u : ⊥ = cc in u)
  now_spread c (Some (Spread other)) mid done is ends e = elim ends [
    | inl whole ↦ (is ∙ (sym whole.1 ∙ e), whole.0)
    | inr left ↦ let z : Some Dead ≡ Some (Spread done) = sym left.1 ∙ e in absurd (let u : ⊥ = cc in u)
  ]
  now_spread c None mid done is ends e = let z : None ≡ Some (Spread done) = sym ends ∙ e in absurd (let u : ⊥ = cc in u)

  was_spread : (c : ℕ) (done : List Bool) → slice_get now c ≡ Some (Spread done) → slice_get was c ≡ Some (Spread done)
  was_spread c done is = elim (same c) [
    | inl still ↦ sym still ∙ is
    | inr dead ↦ let z : Some Dead ≡ Some (Spread done) = sym dead ∙ is in absurd (let u : ⊥ = cc in u)
  ]

  pub run_ends : Ends y was closes.mid last s
  run_ends = record {
    live = λ c d of h.
        let mid = mid_stands c d (slice_get closes.mid c) refl of (closes.filling c) (still c (column.Live d) h (λ e. cc e)) in
        stood c (slice_get now c) refl (now_from c (slice_get now c) (slice_get closes.mid c) (closes.spread c) mid);
    spread = λ i below h.
        let c : ℕ = (y.place s i).column in
        let mid = mid_spread c (slice_get closes.mid c) refl (closes.filling c) (still c column.Spread h (λ e. cc e)) in
        let then = now_spread c (slice_get now c) (slice_get closes.mid c) mid.0 refl (closes.spread c) mid.1 in
        (mid.0, mid.1, was_spread c mid.0 then.0, ap (λ x. is_done_on x s) (sym then.0) ∙ then.1 s stripe (lies_on y now s i below));
  }

-- of an array that was lost in a run, both are gone as the run has ended
pub run_are_gone : (y : Shape) (was now : List ColumnState) (kept last : List Column) (loss : Loss) → IsLost y was loss → ClosesAs y now kept
    → ((c : ℕ) → (slice_get now c ≡ slice_get was c) ⊎ (slice_get now c ≡ Some Dead)) → ((c : ℕ) → (slice_get last c ≡ slice_get kept c) ⊎ (slice_get last c ≡ Some column.Dead)) → AreGone y last loss
run_are_gone y was now kept last loss lost closes same die = are_gone y was closes.mid last loss lost (run_ends y was now kept last closes same die loss.stripe lost.stripe)

-- ## What they are in the end

-- a column that is there is something
there : {A : Type 0} (cols : List Column) (c : ℕ) → c < length cols → slice_get cols c ≡ None → A
there cols c within none = let z : Some _ ≡ None = sym (slice_get-get_or cols c column.Dead within) ∙ none in absurd (let u : ⊥ = cc in u)

module _ (y : Shape) (law : IsLayout y) (cols : List Column) (order : AreOrdered y cols) (none : count_by is_set_filling cols ≡ 0) (s c : ℕ) (stripe : s < y.stripes) (gone : IsGone y cols s c) where
  unfilled : {A : Type 0} (k d n : ℕ) → slice_get cols k ≡ Some (column.Filling d n) → A
  unfilled k d n is = false_is (sym (none_passes is_set_filling cols none k) ∙ ap (passes is_set_filling) is)

  spare_dead : slice_get cols c ≡ Some column.Spread → (p : Place) → y.spare s ≡ Some p → IsOut cols p.column → (o : Option Column) → slice_get cols p.column ≡ o → slice_get cols p.column ≡ Some column.Dead
  spare_dead spread p e out (Some (column.Live d)) is = absurd (out d is)
  spare_dead spread p e out (Some column.Dead) is = is
  spare_dead spread p e out (Some (column.Filling d n)) is = unfilled p.column d n is
  spare_dead spread p e out (Some column.Spread) is = absurd (law.spare_column s gone.unit p stripe gone.below e (gone.lies ∙ order.spread c p.column spread is))
  spare_dead spread p e out None is = there cols p.column (subst (λ n. p.column < n) (sym order.count) (law.spare_within s p stripe e).0) is

  over : slice_get cols c ≡ Some column.Spread → (o : Option Place) → y.spare s ≡ o → IsSpareOut cols o → (p : Place) × (y.spare s ≡ Some p) × (slice_get cols p.column ≡ Some column.Dead)
  over spread None e out = false_is (subst IsSome e (order.spares c s spread stripe))
  over spread (Some p) e out = (p, e, spare_dead spread p e out (slice_get cols p.column) refl)

  lost_on : (o : Option Column) → slice_get cols c ≡ o → IsLostOn y cols s c
  lost_on (Some (column.Live d)) is = absurd (gone.out d is)
  lost_on (Some column.Dead) is = inl is
  lost_on (Some (column.Filling d n)) is = unfilled c d n is
  lost_on (Some column.Spread) is = inr (is, over is (y.spare s) refl (gone.spare is))
  lost_on None is = there cols c (subst (λ n. c < n) (sym order.count) (subst (λ k. k < y.columns) gone.lies (law.within s gone.unit stripe gone.below).0)) is

pub lost_by_dead : (y : Shape) (cols : List Column) (loss : Loss) → IsLayout y → AreOrdered y cols → count_by is_set_filling cols ≡ 0 → AreGone y cols loss → IsLostByDead y cols loss
lost_by_dead y cols loss law order none gone = record {
  first = lost_on y law cols order none loss.stripe loss.first gone.stripe gone.first (slice_get cols loss.first) refl;
  second = lost_on y law cols order none loss.stripe loss.second gone.stripe gone.second (slice_get cols loss.second) refl;
}
