-- How many stripes of a layout lie so and so on its columns.
use Rattle.std.specs.Prelude.{ℕ, ◌==◌, ◌&&◌, not, Bool, false}
use Rattle.std.specs.Option.{option_map_or}
use Rattle.lay_core.specs.Layout.{Shape, data_units}
use Rattle.lay_core.specs.Touched.{any_below, count_below}
use Rattle.top_layout.specs.declared.tally.Tally.{Tally}
use Rattle.top_layout.specs.declared.tally.Tally.TheVariants as tally

-- one of the first n units of stripe s lies on column c
abbrev pub lies_among : Shape → ℕ → ℕ → ℕ → Bool
lies_among y n s c = any_below (λ i. (y.place s i).column == c) n

-- the spare place of stripe s lies there
abbrev pub is_spare_on : Shape → ℕ → ℕ → Bool
is_spare_on y s c = option_map_or (λ p. p.column == c) (y.spare s) false

-- stripe s is one that is counted: a data unit of it lies on the column, or its check unit, or its
-- spare place; or one of its units lies on the one column and one on the other, or its spare place does
abbrev pub is_counted : Shape → Tally → ℕ → Bool
is_counted y (tally.Data c) s = lies_among y (data_units y) s c
is_counted y (tally.Check c) s = lies_among y y.width s c && not (lies_among y (data_units y) s c)
is_counted y (tally.Spare c) s = is_spare_on y s c
is_counted y (tally.Shared c d) s = lies_among y y.width s c && lies_among y y.width s d
is_counted y (tally.Spared c d) s = lies_among y y.width s c && is_spare_on y s d

-- how many they are
abbrev pub tally_of : Shape → Tally → ℕ
tally_of y what = count_below (is_counted y what) y.stripes
