-- How many rebuilds there are, of columns of which the one that is rebuilt anew is dead.
use Rattle.std.specs.Prelude.{◌≡◌, ◌≢◌, ◌==◌, ◌&&◌, ◌||◌, ℕ, Bool, true, false, List, Option, Some, None, if◌then◌else◌, nat_le, slice_set}
use Rattle.std.proofs.Common.{refl, sym, ap, ◌∙◌}
use Rattle.std.proofs.lemmas.Bool.{eqb-false}
use Rattle.lay_core.specs.Layout.{Shape}
use Rattle.eng_array.specs.declared.start.Start.{Start}
use Rattle.eng_array.specs.declared.start.Start.TheVariants as start
use Rattle.eng_cols.specs.declared.column.Column.{Column}
use Rattle.eng_cols.specs.declared.column.Column.TheVariants as column
use Rattle.eng_cols.specs.Cols.{is_set_spread, passes}
use Rattle.eng_cols.specs.Seats.{is_place_on}
use Rattle.eng_cols.proofs.Counting.{any-same, count-same}
use Rattle.eng_cols.proofs.Fewer.{states-spread}
use Rattle.eng_cols.proofs.Lists.{get_set_other}
use Rattle.eng_cols.specs.Stripes.{are_spread, is_stripe_by, is_stripe_of, is_unit_by, states_of}
use Rattle.top_duty.specs.Duty.{rebuilds_by}
use Rattle.top_duty.specs.Steps.{with_dead}
use Rattle.top_duty.specs.Opening.{stripes_on}
use Rattle.top_duty.specs.Start.{IsNamedBy}

-- whether a stripe is one of a column goes by which of the other columns are spread
pub stripe_apart : (y : Shape) (one other : ℕ → Bool) (c s : ℕ) → ((k : ℕ) → k ≢ c → one k ≡ other k) → is_stripe_by y one c s ≡ is_stripe_by y other c s
unfolding is_stripe_by
stripe_apart y one other c s same = any-same (λ i. is_unit_by y one s i c) (λ i. is_unit_by y other s i c) y.width (λ i. go i (c == (y.place s i).column) refl)
  where
    go : (i : ℕ) (b : Bool) → (c == (y.place s i).column) ≡ b → (b || (one (y.place s i).column && is_place_on (y.spare s) c)) ≡ (b || (other (y.place s i).column && is_place_on (y.spare s) c))
    go i true e = refl
    go i false e = ap (λ (b : Bool). b && is_place_on (y.spare s) c) (same (y.place s i).column (λ here. eqb-false c (y.place s i).column e (sym here)))

-- so a column has as many where it is dead itself
stripes_dead : (y : Shape) (columns : List Column) (c : ℕ) → stripes_on y (slice_set columns c column.Dead) c ≡ stripes_on y columns c
stripes_dead y columns c =
    count-same (is_stripe_of y (states_of y (slice_set columns c column.Dead)) c) (is_stripe_of y (states_of y columns) c) y.stripes
    (λ s. stripe_apart y (are_spread (states_of y (slice_set columns c column.Dead))) (are_spread (states_of y columns)) c s
    (λ k other. states-spread y (slice_set columns c column.Dead) k ∙ (ap (passes is_set_spread) (get_set_other columns c k column.Dead other) ∙ sym (states-spread y columns k))))

-- the rebuilds are those of the columns as they are opened
pub rebuilds_dead : (y : Shape) (columns : List Column) (excused : Option ℕ) (s : Start) → IsNamedBy excused s → rebuilds_by y (with_dead excused columns) (Some s) ≡ rebuilds_by y columns (Some s)
unfolding rebuilds_by
rebuilds_dead y columns excused (start.Fill c device most) named =
    ap (λ (e : Option ℕ). rebuilds_by y (with_dead e columns) (Some (start.Fill c device most))) named
    ∙ ap (λ (n : ℕ). if nat_le n most then n else most) (stripes_dead y columns c)
rebuilds_dead y columns excused (start.Resume c most) named = ap (λ (e : Option ℕ). rebuilds_by y (with_dead e columns) (Some (start.Resume c most))) named
rebuilds_dead y columns excused (start.Spread c) named =
    ap (λ (e : Option ℕ). rebuilds_by y (with_dead e columns) (Some (start.Spread c))) named
    ∙ ap (λ (n : ℕ). if nat_le n 4294967295 then n else 4294967295) (stripes_dead y columns c)

pub rebuilds_none : (y : Shape) (columns others : List Column) → rebuilds_by y columns None ≡ rebuilds_by y others None
unfolding rebuilds_by
rebuilds_none y columns others = refl
