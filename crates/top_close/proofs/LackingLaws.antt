-- Both columns of a loss lack a unit of its stripe.
use Rattle.std.proofs.Common.{◌≡◌, ◌⊎◌, ◌∙◌, ℕ, ◌<◌, arith, List, length, Bool, true, false, Option, Some, None, refl, sym, subst, inl, inr}
use Rattle.std.specs.Prelude.{min, max, slice_get, ◌&&◌, IsSome}
use Rattle.std.proofs.lemmas.Bool.{cases_lt}
use Rattle.std.proofs.lemmas.Option.{slice_get-get_or}
use Rattle.std.proofs.Math.Nat.{max-eq_left, max-eq_right, min-eq_left, min-eq_right}
use Rattle.lay_core.specs.declared.place.Place.{Place}
use Rattle.lay_core.specs.Layout.{Shape, IsLayout}
use Rattle.eng_cols.specs.declared.spot.Loss.{Loss}
use Rattle.eng_cols.specs.Cols.{ColumnState, Live, Dead, Filling, Spread, InOrder, is_done}
use Rattle.eng_cols.specs.Laws.{HaveSpares}
use Rattle.eng_cols.specs.Lost.{IsLost}
use Rattle.eng_cols.specs.Seats.{stands_for, spare_stands, available_on, is_available}
use Rattle.top_close.specs.Losses.{LacksPlace, LacksSpare, LacksUnit, LossLacksUnits}

true_is : {A : Type 0} → true ≡ false → A
true_is h = absurd (let u : ⊥ = cc in u)

-- a column that is there is something
there : {A : Type 0} (cols : List ColumnState) (c : ℕ) → c < length cols → slice_get cols c ≡ None → A
there cols c within none = let z : Some _ ≡ None = sym (slice_get-get_or cols c Dead within) ∙ none in absurd (let u : ⊥ = cc in u)

-- ## One unit

module _ (y : Shape) (cols : List ColumnState) (s i : ℕ) (law : IsLayout y) (count : length cols ≡ y.columns) (order : InOrder cols) (spares : HaveSpares y cols) (stripe : s < y.stripes) (within : i < y.width) where
  abbrev c : ℕ
  c = (y.place s i).column

  module _ (done : List Bool) (spread : slice_get cols c ≡ Some (Spread done)) where
    place : (p : Place) → y.spare s ≡ Some p → (o : Option ColumnState) → slice_get cols p.column ≡ o → stands_for o s ≡ false → LacksPlace cols s p.column
    place p e (Some (Live d)) is h = true_is h
    place p e (Some Dead) is h = inl is
    place p e (Some (Filling d other)) is h = inr (d, other, is, h)
    place p e (Some (Spread other)) is h = absurd (law.spare_column s i p stripe within e (order.one_spread c p.column done other spread is))
    place p e None is h = there cols p.column (subst (λ n. p.column < n) (sym count) (law.spare_within s p stripe e).0) is

    spare : (o : Option Place) → y.spare s ≡ o → spare_stands cols o s ≡ false → LacksSpare y cols s
    spare None e h = let z : false ≡ true = subst IsSome e (spares c s done spread stripe) in true_is (sym z)
    spare (Some p) e h = (p, e, place p e (slice_get cols p.column) refl h)

    parts : (b : Bool) → is_done done s ≡ b → (b && spare_stands cols (y.spare s) s) ≡ false → (is_done done s ≡ false) ⊎ LacksSpare y cols s
    parts false e h = inl e
    parts true e h = inr (spare (y.spare s) refl h)

  by : (o : Option ColumnState) → slice_get cols c ≡ o → available_on y cols o s ≡ false → LacksUnit y cols s c
  by (Some (Live d)) is h = true_is h
  by (Some Dead) is h = inl (inl is)
  by (Some (Filling d done)) is h = inl (inr (d, done, is, h))
  by (Some (Spread done)) is h = inr (done, is, parts done is (is_done done s) refl h)
  by None is h = there cols c (subst (λ n. c < n) (sym count) (law.within s i stripe within).0) is

  lacks_unit : is_available y cols s i ≡ false → LacksUnit y cols s (y.place s i).column
  lacks_unit missing = by (slice_get cols c) refl missing

-- ## Both

-- what is so of two numbers is so of the lesser and of the greater
pub min_or : (P : ℕ → Type 0) (a b c : ℕ) → c ≡ min a b → P a → P b → P c
min_or P a b c e pa pb = elim (cases_lt a b) [
  | inl lt ↦ subst P (sym (e ∙ min-eq_left (omega (arith, lt)))) pa
  | inr ge ↦ subst P (sym (e ∙ min-eq_right (omega (arith, ge)))) pb
]

pub max_or : (P : ℕ → Type 0) (a b c : ℕ) → c ≡ max a b → P a → P b → P c
max_or P a b c e pa pb = elim (cases_lt a b) [
  | inl lt ↦ subst P (sym (e ∙ max-eq_right (omega (arith, lt)))) pb
  | inr ge ↦ subst P (sym (e ∙ max-eq_left (omega (arith, ge)))) pa
]

pub loss_lacks : (y : Shape) (cols : List ColumnState) (loss : Loss) → IsLayout y → length cols ≡ y.columns → InOrder cols → HaveSpares y cols → IsLost y cols loss → LossLacksUnits y cols loss
loss_lacks y cols loss law count order spares lost =
    let one = lacks_unit y cols loss.stripe lost.i law count order spares lost.stripe lost.units.within.0 lost.units.missing.0 in
    let two = lacks_unit y cols loss.stripe lost.j law count order spares lost.stripe lost.units.within.1 lost.units.missing.1 in
    record {
      first = min_or (λ c. LacksUnit y cols loss.stripe c) _ _ loss.first lost.first one two;
      second = max_or (λ c. LacksUnit y cols loss.stripe c) _ _ loss.second lost.second one two;
    }
