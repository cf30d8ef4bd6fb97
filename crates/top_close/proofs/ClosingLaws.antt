-- What agreed before columns were judged at the end of a run still agrees, an array that isn't lost then wasn't before, and what was dead is.
use Rattle.std.proofs.Common.{◌≡◌, ◌⊎◌, ◌∙◌, ℕ, ◌<◌, List, Bool, true, false, Option, Some, None, refl, sym, ap, inl, inr, arith}
use Rattle.std.specs.Prelude.{slice_get, ◌==◌, ◌&&◌, ◌||◌}
use Rattle.std.proofs.lemmas.Bool.{and_parts, and_from}
use Rattle.lay_core.specs.Layout.{Shape, Blocks}
use Rattle.eng_cols.specs.declared.column.Column.{Column}
use Rattle.eng_cols.specs.declared.column.Column.TheVariants as column
use Rattle.eng_cols.specs.Cols.{ColumnState, Live, Dead, Filling, Spread, AtMostOne, is_done_on, is_spread, is_set_filling, is_set_spread, passes}
use Rattle.eng_cols.specs.Seats.{is_available, seat, is_place_on, IsStripeOf, IsWhole}
use Rattle.eng_cols.specs.Stripes.{leading, states_of}
use Rattle.eng_cols.specs.Fewer.{IsReadOn, AreRead}
use Rattle.eng_cols.specs.Contents.{Contents, Agrees}
use Rattle.eng_cols.specs.Lost.{NotLost}
use Rattle.eng_cols.proofs.Fewer.{none-back, read-fewer}
use Rattle.top_close.specs.Closes.{SpreadEnds, FillingEnds, ClosesAs}
use Rattle.top_close.specs.Dying.{OnlyDie}
use Rattle.top_close.proofs.DyingLaws.{lost_no_less, still_agrees}

not_true : {A : Type 0} → false ≡ true → A
not_true h = absurd (let u : ⊥ = cc in u)

-- ## Spread columns

spread_cases : (y : Shape) (cols : List ColumnState) (c : ℕ) (o after : Option ColumnState) → SpreadEnds y cols c o after → (after ≡ o) ⊎ (after ≡ Some Dead)
spread_cases y cols c (Some (Live d)) after h = inl h
spread_cases y cols c (Some Dead) after h = inl h
spread_cases y cols c (Some (Filling d done)) after h = inl h
spread_cases y cols c (Some (Spread done)) after h = elim h [ inl whole ↦ inl whole.1 | inr left ↦ inr left.1 ]
spread_cases y cols c None after h = inl h

-- one that is left was whole
spread_was : (y : Shape) (cols : List ColumnState) (c : ℕ) (o after : Option ColumnState) (done : List Bool) → SpreadEnds y cols c o after → after ≡ Some (Spread done) → IsWhole y cols c × (o ≡ Some (Spread done))
spread_was y cols c (Some (Live d)) after done h e = let z : Some (Live d) ≡ Some (Spread done) = sym h ∙ e in absurd (let u : ⊥ = cc in u)
spread_was y cols c (Some Dead) after done h e = let z : Some Dead ≡ Some (Spread done) = sym h ∙ e in absurd (let u : ⊥ = cc in u)
spread_was y cols c (Some (Filling d other)) after done h e = let z : Some (Filling d other) ≡ Some (Spread done) = sym h ∙ e in absurd (let u : ⊥ = cc in u)
spread_was y cols c (Some (Spread other)) after done h e = elim h [
  | inl whole ↦ (whole.0, sym whole.1 ∙ e)
  | inr left ↦ let z : Some Dead ≡ Some (Spread done) = sym left.1 ∙ e in absurd (let u : ⊥ = cc in u)
]
spread_was y cols c None after done h e = let z : None ≡ Some (Spread done) = sym h ∙ e in absurd (let u : ⊥ = cc in u)

-- one that is spread then was so
still_spread : (y : Shape) (cols : List ColumnState) (c : ℕ) (o after : Option ColumnState) → SpreadEnds y cols c o after → passes is_spread after ≡ true → passes is_spread o ≡ true
still_spread y cols c (Some (Live d)) after h e = not_true (ap (passes is_spread) (sym h) ∙ e)
still_spread y cols c (Some Dead) after h e = not_true (ap (passes is_spread) (sym h) ∙ e)
still_spread y cols c (Some (Filling d done)) after h e = not_true (ap (passes is_spread) (sym h) ∙ e)
still_spread y cols c (Some (Spread done)) after h e = refl
still_spread y cols c None after h e = not_true (ap (passes is_spread) (sym h) ∙ e)

-- ## The columns as they are read then

-- those are spread that were
same_spread : (y : Shape) (mid : List ColumnState) (c : ℕ) (o : Option ColumnState) (k : Option Column) → FillingEnds y mid c o k → passes is_set_spread k ≡ passes is_spread o
same_spread y mid c (Some (Live d)) k h = ap (passes is_set_spread) h
same_spread y mid c (Some Dead) k h = ap (passes is_set_spread) h
same_spread y mid c (Some (Filling d done)) k (inl whole) = ap (passes is_set_spread) whole.1
same_spread y mid c (Some (Filling d done)) k (inr left) = ap (passes is_set_spread) left.1
same_spread y mid c (Some (Spread done)) k h = ap (passes is_set_spread) h
same_spread y mid c None k h = ap (passes is_set_spread) h

module _ (y : Shape) (cols : List ColumnState) (kept : List Column) (closes : ClosesAs y cols kept) where
  die : OnlyDie cols closes.mid
  die = record { count = closes.count; each = λ c. spread_cases y cols c (slice_get cols c) (slice_get closes.mid c) (closes.spread c) }

  -- a stripe of a column was one of it
  stripe_was : (c s : ℕ) → IsStripeOf y closes.mid c s → IsStripeOf y cols c s
  stripe_was c s of = (of.0, of.1, or_then (c == (y.place s of.0).column) _ _ spare of.2)
    where
      or_then : (a b d : Bool) → (b ≡ true → d ≡ true) → (a || b) ≡ true → (a || d) ≡ true
      or_then true b d f h = refl
      or_then false b d f h = f h

      spare : (passes is_spread (slice_get closes.mid (y.place s of.0).column) && is_place_on (y.spare s) c) ≡ true → (passes is_spread (slice_get cols (y.place s of.0).column) && is_place_on (y.spare s) c) ≡ true
      spare h =
          let k : ℕ = (y.place s of.0).column in
          let both = and_parts (passes is_spread (slice_get closes.mid (y.place s of.0).column)) (is_place_on (y.spare s) c) h in
          and_from (passes is_spread (slice_get cols (y.place s of.0).column)) (is_place_on (y.spare s) c)
          (still_spread y cols (y.place s of.0).column (slice_get cols (y.place s of.0).column) (slice_get closes.mid (y.place s of.0).column) (closes.spread (y.place s of.0).column) both.0) both.1

  -- a spread column that is left is whole
  spread_whole : (c : ℕ) (done : List Bool) → slice_get closes.mid c ≡ Some (Spread done) → IsWhole y closes.mid c
  spread_whole c done e s sw of =
      let was = spread_was y cols c (slice_get cols c) (slice_get closes.mid c) done (closes.spread c) e in
      ap (λ o. is_done_on o s) (e ∙ sym was.1) ∙ was.0 s sw (stripe_was c s of)

  read_on : (c : ℕ) (o : Option ColumnState) (k : Option Column) → slice_get closes.mid c ≡ o → FillingEnds y closes.mid c o k → IsReadOn y closes.mid c o k
  read_on c (Some (Live d)) k e h = inl h
  read_on c (Some Dead) k e h = h
  read_on c (Some (Filling d done)) k e (inl whole) = inl whole
  read_on c (Some (Filling d done)) k e (inr left) = inr (inl (leading y closes.mid c, omega arith, left.1))
  read_on c (Some (Spread done)) k e h = inl (spread_whole c done e, h)
  read_on c None k e h = h

  read : AreRead y closes.mid kept
  read = record {
    each = λ c. read_on c (slice_get closes.mid c) (slice_get kept c) refl (closes.filling c);
    spread = λ c d m is k. same_spread y closes.mid k (slice_get closes.mid k) (slice_get kept k) (closes.filling k);
  }

  module _ (one : AtMostOne is_set_filling kept) where
    unit_stood : (s i : ℕ) → s < y.stripes → i < y.width → is_available y (states_of y kept) s i ≡ true → (is_available y closes.mid s i ≡ true) × (seat y (states_of y kept) s i ≡ seat y closes.mid s i)
    unit_stood s i si ii here = none-back y closes.mid (states_of y kept) (read-fewer y closes.mid kept read one) s i si ii here

    pub closing_agrees : (contents : Contents) (blocks : Blocks) (stripes : ℕ → Type 0) → Agrees y contents cols blocks stripes → Agrees y contents (states_of y kept) blocks stripes
    closing_agrees contents blocks stripes agrees s i si st ii at o k here is ou ku =
        let stood = unit_stood s i si ii here in
        still_agrees y cols closes.mid die contents blocks stripes agrees s i si st ii at o k stood.0 (sym stood.1 ∙ is) ou ku

    -- what is missing stays missing
    missing_still : (s i : ℕ) → s < y.stripes → i < y.width → is_available y closes.mid s i ≡ false → is_available y (states_of y kept) s i ≡ false
    missing_still s i si ii missing = go (is_available y (states_of y kept) s i) refl
      where
        go : (b : Bool) → is_available y (states_of y kept) s i ≡ b → is_available y (states_of y kept) s i ≡ false
        go false e = e
        go true e = not_true (sym missing ∙ (unit_stood s i si ii e).0)

    pub closing_lost : NotLost y (states_of y kept) → NotLost y cols
    closing_lost not = lost_no_less y cols closes.mid die (λ s si i j ii ji one two. not s si i j ii ji (missing_still s i si ii one) (missing_still s j si ji two))

  dead_filling : (c : ℕ) (o : Option ColumnState) → o ≡ Some Dead → FillingEnds y closes.mid c o (slice_get kept c) → slice_get kept c ≡ Some column.Dead
  dead_filling c (Some (Live d)) is h = let z : Some (Live d) ≡ Some Dead = is in absurd (let u : ⊥ = cc in u)
  dead_filling c (Some Dead) is h = h
  dead_filling c (Some (Filling d done)) is h = let z : Some (Filling d done) ≡ Some Dead = is in absurd (let u : ⊥ = cc in u)
  dead_filling c (Some (Spread done)) is h = let z : Some (Spread done) ≡ Some Dead = is in absurd (let u : ⊥ = cc in u)
  dead_filling c None is h = let z : None ≡ Some Dead = is in absurd (let u : ⊥ = cc in u)

  pub closing_dead : (c : ℕ) → slice_get cols c ≡ Some Dead → slice_get kept c ≡ Some column.Dead
  closing_dead c dead =
      dead_filling c (slice_get closes.mid c)
      (elim (spread_cases y cols c (slice_get cols c) (slice_get closes.mid c) (closes.spread c)) [ inl same ↦ same ∙ dead | inr died ↦ died ])
      (closes.filling c)
