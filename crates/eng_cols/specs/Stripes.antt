-- The stripes of a column, how many they are, and which of them are done as the column is set.
use Rattle.std.specs.Prelude.{ℕ, zero, suc, ◌==◌, ◌&&◌, ◌||◌, not, Bool, true, List, [], ◌∷◌, if◌then◌else◌, map, nat_lt, Option, Some, None, option_and_then, slice_get, slice_set, replicate, false}
use Rattle.lay_core.specs.Layout.{Shape}
use Rattle.eng_cols.specs.declared.column.Column.{Column}
use Rattle.eng_cols.specs.declared.column.Column.TheVariants as column
use Rattle.eng_cols.specs.Cols.{ColumnState, is_done_on, is_set_spread, is_spread, passes, state_set}
use Rattle.eng_cols.specs.Seats.{is_place_on}
use Rattle.lay_core.specs.Touched.{count_below, any_below}
use Rattle.std.specs.Option.{option_map_or}
use Rattle.lay_core.specs.declared.place.Place.{Place}

-- ## The stripes of a column

-- column k is spread
abbrev pub spreads : List Column → ℕ → Bool
spreads columns k = passes is_set_spread (slice_get columns k)

abbrev pub are_spread : List ColumnState → ℕ → Bool
are_spread cols k = passes is_spread (slice_get cols k)

-- unit i of stripe s is a unit of column c, where these columns are spread
abbrev pub is_unit_by : Shape → (ℕ → Bool) → ℕ → ℕ → ℕ → Bool
is_unit_by y spread s i c = (c == (y.place s i).column) || (spread (y.place s i).column && is_place_on (y.spare s) c)

-- stripe s is one of column c: it has a unit of it
unfoldable pub is_stripe_by : Shape → (ℕ → Bool) → ℕ → ℕ → Bool
is_stripe_by y spread c s =
    any_below (λ i. (c == (y.place s i).column) || (spread (y.place s i).column && passes (λ (p : Place). c == p.column) (y.spare s))) y.width

abbrev pub is_stripe_of : Shape → List ColumnState → ℕ → ℕ → Bool
is_stripe_of y cols c s = is_stripe_by y (are_spread cols) c s

-- ## The first of them

-- of n stripes, of those below s that pass the first m
unfoldable pub first_done : (ℕ → Bool) → ℕ → ℕ → ℕ → List Bool
first_done p m zero n = replicate n false
first_done p m (suc s) n = if p s && nat_lt (count_below p s) m then slice_set (first_done p m s n) s true else first_done p m s n

-- how many stripes are done on a column that is filling
abbrev pub done_set : Column → Option ℕ
done_set (column.Live device) = None
done_set column.Dead = None
done_set (column.Filling device done) = Some done
done_set column.Spread = None

abbrev pub done_at : List Column → ℕ → Option ℕ
done_at columns c = option_and_then done_set (slice_get columns c)

-- the stripes that are done on the first column from number c on that is filling
unfoldable pub filled_from : Shape → (ℕ → Bool) → List Column → ℕ → List Bool
filled_from y spread [] c = replicate y.stripes false
filled_from y spread (x ∷ columns) c =
    option_map_or (λ (done : ℕ). first_done (is_stripe_by y spread c) done y.stripes y.stripes) (done_set x) (filled_from y spread columns (suc c))

-- the stripes that are done on the column that is filling: the first of its stripes, as many as it says
unfoldable pub filled_in : Shape → List Column → List Bool
filled_in y columns = filled_from y (λ k. passes is_set_spread (slice_get columns k)) columns 0

-- the columns as they are set
abbrev pub states_of : Shape → List Column → List ColumnState
states_of y columns = map (state_set y.stripes (filled_in y columns)) columns

-- ## How many are done from the first on

-- each of the numbers below n that passes is done
unfoldable pub all_done_below : (ℕ → Bool) → (ℕ → Bool) → ℕ → Bool
all_done_below p done zero = true
all_done_below p done (suc s) = all_done_below p done s && (not (p s) || done s)

-- how many of the column's stripes are done with all of its stripes before them
unfoldable pub leading : Shape → List ColumnState → ℕ → ℕ
leading y cols c =
    count_below (λ s. is_stripe_of y cols c s && all_done_below (is_stripe_of y cols c) (is_done_on (slice_get cols c)) (suc s)) y.stripes
