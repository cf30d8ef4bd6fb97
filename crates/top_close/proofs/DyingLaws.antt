-- Columns that die bring no unit back.
use Rattle.std.proofs.Common.{◌≡◌, ◌∙◌, ℕ, List, Bool, true, false, Option, Some, None, refl, sym, ap, subst, inl, inr, arith}
use Rattle.std.specs.Prelude.{slice_get, count_by}
use Rattle.std.proofs.lemmas.Bool.{and_parts, and_from}
use Rattle.std.proofs.lemmas.List.{length-map}
use Rattle.lay_core.specs.declared.place.Place.{Place}
use Rattle.lay_core.specs.Layout.{Shape, Blocks}
use Rattle.eng_cols.specs.declared.column.Column.{Column}
use Rattle.eng_cols.specs.declared.column.Column.TheVariants as column
use Rattle.eng_cols.specs.Cols.{ColumnState, Live, Dead, Filling, Spread, AtMostOne, device_set, is_done, is_set_filling, is_set_spread, passes, state_set, HasDeviceOn}
use Rattle.eng_cols.specs.Seats.{stands_for, spare_stands, available_on, is_available, open_on, seat_on, seat}
use Rattle.eng_cols.specs.Lost.{NotLost}
use Rattle.eng_cols.specs.Contents.{Contents, Agrees, sector_at}
use Rattle.eng_cols.specs.Deaths.{Dies}
use Rattle.eng_cols.proofs.Fewer.{states-die}
use Rattle.eng_cols.proofs.Spots.{seat-device}
use Rattle.top_close.proofs.Counts.{none_passes}
use Rattle.top_close.specs.Dying.{OnlyDie, HoldSame}
use Rattle.eng_cols.specs.Stripes.{filled_in, spreads, states_of}
use Rattle.eng_cols.specs.Fewer.{DieApart}
use Rattle.eng_cols.proofs.Words.{spare_open}

module _ (y : Shape) (old new : List ColumnState) (die : OnlyDie old new) where
  -- a column of which something holds that holds of no dead one is what it was
  same_where : (P : Option ColumnState → Type 0) (c : ℕ) → (P (Some Dead) → ⊥) → P (slice_get new c) → slice_get new c ≡ slice_get old c
  same_where P c dead h = elim (die.each c) [ inl same ↦ same | inr is ↦ absurd (dead (subst P is h)) ]

  dead_stands : (s : ℕ) → stands_for (Some Dead) s ≡ true → ⊥
  dead_stands s h = let z : false ≡ true = h in let u : ⊥ = cc in u

  dead_available : (s : ℕ) → available_on y new (Some Dead) s ≡ true → ⊥
  dead_available s h = let z : false ≡ true = h in let u : ⊥ = cc in u

  spare_back : (o : Option Place) (s : ℕ) → spare_stands new o s ≡ true → (spare_stands old o s ≡ true) × (spare_open new o ≡ spare_open old o)
  spare_back None s h = let z : false ≡ true = h in let u : ⊥ = cc in absurd u
  spare_back (Some p) s h =
      let same = same_where (λ o. stands_for o s ≡ true) p.column (dead_stands s) h in
      (ap (λ o. stands_for o s) (sym same) ∙ h, ap (λ o. open_on o p) same)

  on_back : (o : Option ColumnState) (p : Place) (s : ℕ) → available_on y new o s ≡ true → (available_on y old o s ≡ true) × (seat_on y new o p s ≡ seat_on y old o p s)
  on_back (Some (Live device)) p s h = (refl, refl)
  on_back (Some (Filling device done)) p s h = (h, refl)
  on_back (Some Dead) p s h = absurd (dead_available s h)
  on_back None p s h = let z : false ≡ true = h in let u : ⊥ = cc in absurd u
  on_back (Some (Spread done)) p s h =
      let parts = and_parts (is_done done s) (spare_stands new (y.spare s) s) h in
      let spare = spare_back (y.spare s) s parts.1 in
      (and_from (is_done done s) (spare_stands old (y.spare s) s) parts.0 spare.0, spare.1)

  pub unit_back : (s i : ℕ) → is_available y new s i ≡ true → (is_available y old s i ≡ true) × (seat y new s i ≡ seat y old s i)
  unit_back s i h =
      let c : ℕ = (y.place s i).column in
      let same = same_where (λ o. available_on y new o s ≡ true) (y.place s i).column (dead_available s) h in
      let back = on_back (slice_get new (y.place s i).column) (y.place s i) s h in
      (subst (λ o. available_on y old o s ≡ true) same back.0, back.1 ∙ ap (λ o. seat_on y old o (y.place s i) s) same)

  pub still_agrees : (contents : Contents) (blocks : Blocks) (stripes : ℕ → Type 0) → Agrees y contents old blocks stripes → Agrees y contents new blocks stripes
  still_agrees contents blocks stripes agrees s i si st ii at o k here is ou ku =
      let back = unit_back s i here in
      agrees s i si st ii at o k back.0 (sym back.1 ∙ is) ou ku

  -- a unit that was missing is missing
  missing_still : (s i : ℕ) → is_available y old s i ≡ false → is_available y new s i ≡ false
  missing_still s i was = go (is_available y new s i) refl
    where
      go : (b : Bool) → is_available y new s i ≡ b → is_available y new s i ≡ false
      go false e = e
      go true e = let z : true ≡ false = sym (unit_back s i e).0 ∙ was in let u : ⊥ = cc in absurd u

  pub lost_no_less : NotLost y new → NotLost y old
  lost_no_less not s si i j ii ji one two = not s si i j ii ji (missing_still s i one) (missing_still s j two)

pub columns_die : (cause : ℕ → Type 0) (y : Shape) (old new : List Column) → Dies cause old new → DieApart old new → AtMostOne is_set_filling old → OnlyDie (states_of y old) (states_of y new)
columns_die cause y old new dies apart one = record {
  count = length-map new (state_set y.stripes (filled_in y new)) ∙ (dies.count ∙ sym (length-map old (state_set y.stripes (filled_in y old))));
  each = states-die y old new apart one;
}

-- ## Which deaths leave a filling column its stripes

-- a column with a device isn't spread
pub unspread : (columns : List Column) (c d : ℕ) → HasDeviceOn columns c d → spreads columns c ≡ false
unspread columns c d h = by (slice_get columns c) h
  where
    by : (o : Option Column) → device_set o ≡ Some d → passes is_set_spread o ≡ false
    by (Some (column.Live e)) h = refl
    by (Some column.Dead) h = refl
    by (Some (column.Filling e done)) h = refl
    by (Some column.Spread) h = let z : None ≡ Some d = h in absurd (let u : ⊥ = cc in u)
    by None h = refl

-- deaths of columns that weren't spread
pub dies_apart : (cause : ℕ → Type 0) (old new : List Column) → Dies cause old new → ((c : ℕ) → cause c → spreads old c ≡ false) → DieApart old new
dies_apart cause old new dies unspread = record {
  each = λ c. elim (dies.each c) [ inl same ↦ inl same | inr dead ↦ inr dead.0 ];
  spread = λ c d m is k. elim (dies.each k) [
    | inl same ↦ ap (passes is_set_spread) same
    | inr dead ↦ ap (passes is_set_spread) dead.0 ∙ sym (unspread k dead.1)
  ];
}

-- and deaths that leave none filling
pub dies_unfilled : (cause : ℕ → Type 0) (old new : List Column) → Dies cause old new → count_by is_set_filling new ≡ 0 → DieApart old new
dies_unfilled cause old new dies none = record {
  each = λ c. elim (dies.each c) [ inl same ↦ inl same | inr dead ↦ inr dead.0 ];
  spread = λ c d m is k. let z : true ≡ false = sym (ap (passes is_set_filling) is) ∙ none_passes is_set_filling new none c in absurd (let u : ⊥ = cc in u);
}

pub agrees_by_devices : (y : Shape) (old new : Contents) (cols : List ColumnState) (blocks : Blocks) (stripes : ℕ → Type 0) → HoldSame cols old new → Agrees y old cols blocks stripes → Agrees y new cols blocks stripes
agrees_by_devices y old new cols blocks stripes same agrees s i si st ii at o k here is ou ku =
    same at.column at.device (sector_at y at o) k (seat-device y cols s i at is) (omega arith) ∙ agrees s i si st ii at o k here is ou ku
