-- A column dies before or behind its being set.
use Rattle.std.specs.Prelude.{◌≡◌, ◌⊎◌, ◌==◌, ℕ, zero, suc, Bool, true, false, List, [], ◌∷◌, map, Option, Some, None, slice_get, slice_set}
use Rattle.std.proofs.Common.{refl, sym, ap, ap₂, inl, inr, ◌∙◌}
use Rattle.std.proofs.lemmas.Bool.{eq-eqb}
use Rattle.lay_core.specs.Layout.{Shape}
use Rattle.eng_cols.specs.declared.column.Column.{Column}
use Rattle.eng_cols.specs.declared.column.Column.TheVariants as column
use Rattle.eng_cols.specs.Cols.{ColumnState, Dead, state_set}
use Rattle.eng_cols.specs.Stripes.{filled_in, states_of}
use Rattle.top_open.specs.Seats.{is_same}
use Rattle.top_duty.specs.Steps.{with_dead, with_killed}
use Rattle.top_duty.proofs.Deadened.{dead_get}

set_dead : (n : ℕ) (l : List Bool) (columns : List Column) (c : ℕ) → map (state_set n l) (slice_set columns c column.Dead) ≡ slice_set (map (state_set n l) columns) c Dead
set_dead n l [] c = refl
set_dead n l (x ∷ columns) zero = refl
set_dead n l (x ∷ columns) (suc c) = ap (λ (s : List ColumnState). state_set n l x ∷ s) (set_dead n l columns c)

-- where no column is filling it doesn't matter what would be done there
same_unfilled : (n : ℕ) (l m : List Bool) (columns : List Column) → ((c d e : ℕ) → slice_get columns c ≡ Some (column.Filling d e) → ⊥) → map (state_set n l) columns ≡ map (state_set n m) columns
same_unfilled n l m [] none = refl
same_unfilled n l m (x ∷ columns) none = ap₂ (λ (s : ColumnState) (r : List ColumnState). s ∷ r) (one x refl) (same_unfilled n l m columns (λ c. none (suc c)))
  where
    one : (z : Column) → x ≡ z → state_set n l x ≡ state_set n m x
    one (column.Live d) is = rw is refl
    one column.Dead is = rw is refl
    one (column.Filling d e) is = absurd (none 0 d e (ap (λ (z : Column). Some z) is))
    one column.Spread is = rw is refl

-- a column dies, and no other is filling: so it is the same
pub dead_is_killed : (y : Shape) (columns : List Column) (excused : Option ℕ) → ((c : ℕ) → excused ≡ Some c → (e d m : ℕ) → slice_get columns e ≡ Some (column.Filling d m) → e ≡ c)
    → states_of y (with_dead excused columns) ≡ with_killed excused (states_of y columns)
dead_is_killed y columns None alone = refl
dead_is_killed y columns (Some c) alone =
    same_unfilled y.stripes (filled_in y (slice_set columns c column.Dead)) (filled_in y columns) (slice_set columns c column.Dead) (λ e d m at. unfilled e d m (dead_get (Some c) columns e (column.Filling d m) at))
    ∙ set_dead y.stripes (filled_in y columns) columns c
  where
    unfilled : (e d m : ℕ) → (column.Filling d m ≡ column.Dead) ⊎ ((slice_get columns e ≡ Some (column.Filling d m)) × (is_same (Some c) e ≡ false)) → ⊥
    unfilled e d m (inl dead) = let z : ⊥ = cc dead in z
    unfilled e d m (inr was) =
        let here : (c == e) ≡ true = eq-eqb c e (sym (alone c refl e d m was.0)) in
        let z : ⊥ = cc (here, was.1) in z
