-- A unit that was made missing is of a column that has died.
use Rattle.std.proofs.Common.{◌≡◌, inl, inr, ℕ, List, Bool, true, false, Option, Some, None, slice_get, refl, sym, ◌∙◌, ap, rules}
use Rattle.std.specs.Prelude.{◌==◌, ◌&&◌, ◌||◌}
use Rattle.lay_core.specs.declared.place.Place.{Place}
use Rattle.lay_core.specs.Layout.{Shape}
use Rattle.eng_cols.specs.declared.column.Column.{Column}
use Rattle.eng_cols.specs.declared.column.Column.TheVariants as column
use Rattle.eng_cols.specs.Cols.{ColumnState, Live, Dead, Filling, Spread, AtMostOne, is_done, is_set_filling, is_spread, passes}
use Rattle.eng_cols.specs.Deaths.{Dies}
use Rattle.eng_cols.specs.Seats.{available_on, is_available, is_place_on, is_unit_of, spare_stands, stands_for}
use Rattle.eng_cols.specs.Stripes.{states_of}
use Rattle.eng_cols.specs.Fewer.{DieApart}
use Rattle.eng_cols.proofs.Fewer.{states-same}

differ : true ≡ false → ⊥
differ h = let u : ⊥ = cc in u

same-number : (n : ℕ) → (n == n) ≡ true
same-number n = search rules

or-left : (a b : Bool) → a ≡ true → (a || b) ≡ true
or-left true b h = refl
or-left false b h = let z : false ≡ true = h in absurd (let u : ⊥ = cc in u)

or-right : (a b : Bool) → b ≡ true → (a || b) ≡ true
or-right true b h = refl
or-right false b h = h

and-both : (a b : Bool) → a ≡ true → b ≡ true → (a && b) ≡ true
and-both true b one two = two
and-both false b one two = let z : false ≡ true = one in absurd (let u : ⊥ = cc in u)

and-one : (a b : Bool) → (a && b) ≡ true → a ≡ true
and-one true b h = refl
and-one false b h = let z : false ≡ true = h in absurd (let u : ⊥ = cc in u)

and-two : (a b : Bool) → (a && b) ≡ true → b ≡ true
and-two true b h = h
and-two false b h = let z : false ≡ true = h in absurd (let u : ⊥ = cc in u)

module _ (y : Shape) (columns after : List Column) (cause : ℕ → Type 0) (dies : Dies cause columns after) (apart : DieApart columns after) (one : AtMostOne is_set_filling columns) where
  abbrev cols : List ColumnState
  cols = states_of y columns

  abbrev late : List ColumnState
  late = states_of y after

  same-state : (c : ℕ) → slice_get after c ≡ slice_get columns c → slice_get late c ≡ slice_get cols c
  same-state c same = states-same y columns after apart one c same

  -- a column of the unit's, that is dead for a cause
  abbrev pub IsLostBy : ℕ → ℕ → ℕ → Type 0
  IsLostBy s i c = (is_unit_of y cols s i c ≡ true) × (slice_get after c ≡ Some column.Dead) × cause c

  -- the unit's spare place is on a column that died
  spare-died : (s i : ℕ) (done : List Bool) (p : Option Place) → y.spare s ≡ p → slice_get cols (y.place s i).column ≡ Some (Spread done)
      → spare_stands cols p s ≡ true → spare_stands late p s ≡ false → (c : ℕ) × IsLostBy s i c
  spare-died s i done None spare on was gone = absurd (let z : false ≡ true = was in let u : ⊥ = cc in u)
  spare-died s i done (Some p) spare on was gone = elim (dies.each p.column) [
    | inl same ↦ absurd (differ (sym was ∙ (ap (λ o. stands_for o s) (sym (same-state p.column same)) ∙ gone)))
    | inr dead ↦ (
      p.column,
      (
        or-right (p.column == (y.place s i).column) (passes is_spread (slice_get cols (y.place s i).column) && is_place_on (y.spare s) p.column)
            (and-both (passes is_spread (slice_get cols (y.place s i).column)) (is_place_on (y.spare s) p.column)
            (ap (passes is_spread) on)
            (ap (λ o. is_place_on o p.column) spare ∙ same-number p.column)),
        dead.0,
        dead.1,
      ),
    )
  ]

  on-column : (s i : ℕ) (o : Option ColumnState) → slice_get cols (y.place s i).column ≡ o → available_on y cols o s ≡ true → available_on y late o s ≡ false → (c : ℕ) × IsLostBy s i c
  on-column s i None is was gone = absurd (let z : false ≡ true = was in let u : ⊥ = cc in u)
  on-column s i (Some (Live device)) is was gone = absurd (let z : true ≡ false = gone in differ z)
  on-column s i (Some Dead) is was gone = absurd (let z : false ≡ true = was in let u : ⊥ = cc in u)
  on-column s i (Some (Filling device done)) is was gone = absurd (let a : is_done done s ≡ true = was in let b : is_done done s ≡ false = gone in differ (sym a ∙ b))
  on-column s i (Some (Spread done)) is was gone =
      let done_there : is_done done s ≡ true = and-one (is_done done s) (spare_stands cols (y.spare s) s) was in
      let stood : spare_stands cols (y.spare s) s ≡ true = and-two (is_done done s) (spare_stands cols (y.spare s) s) was in
      let falls : spare_stands late (y.spare s) s ≡ false = sym (ap (λ t. t && spare_stands late (y.spare s) s) done_there) ∙ gone in
      spare-died s i done (y.spare s) refl is stood falls

  pub unmade : (s i : ℕ) → is_available y cols s i ≡ true → is_available y late s i ≡ false → (c : ℕ) × IsLostBy s i c
  unmade s i was gone = elim (dies.each (y.place s i).column) [
    | inr dead ↦ own dead.0 dead.1
    | inl same ↦ on-column s i (slice_get cols (y.place s i).column) refl was (ap (λ o. available_on y late o s) (sym (same-state (y.place s i).column same)) ∙ gone)
  ]
    where
      own : slice_get after (y.place s i).column ≡ Some column.Dead → cause (y.place s i).column → (c : ℕ) × IsLostBy s i c
      own dead why = (
        (y.place s i).column,
        (
          or-left ((y.place s i).column == (y.place s i).column) (passes is_spread (slice_get cols (y.place s i).column) && is_place_on (y.spare s) (y.place s i).column) (same-number (y.place s i).column),
          dead,
          why,
        ),
      )
