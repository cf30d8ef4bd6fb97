-- What is so of an array that something may be done with.
use Rattle.std.specs.Prelude.{◌≡◌, ◌<◌, ℕ, List, length, Some, IsSome, slice_get}
use Rattle.eng_cols.specs.declared.column.Column.{Column}
use Rattle.eng_cols.specs.declared.column.Column.TheVariants as column
use Rattle.lay_core.specs.Layout.{IsLayout, Shape, SparesLieByUnits}
use Rattle.top_duty.specs.Duty.{Admitted, layout_of}
use Rattle.top_serve.specs.Setups.{with_start}

-- There is one column for each of the layout's; at most one is spread, and then each stripe has a spare place.
pub record AreOrdered (y : Shape) (cols : List Column) : Type 0 where
  pub count : length cols ≡ y.columns
  pub spread : (c k : ℕ) → slice_get cols c ≡ Some column.Spread → slice_get cols k ≡ Some column.Spread → c ≡ k
  pub spares : (c s : ℕ) → slice_get cols c ≡ Some column.Spread → s < y.stripes → IsSome (y.spare s)

-- The layout has its laws, and no column spare places alone; and the columns are in order as the array was opened, and as its rebuild begins, if one does.
pub record IsOrdered (a : Admitted) : Type 0 where
  pub law : IsLayout (layout_of a)
  pub units : SparesLieByUnits (layout_of a)
  pub opened : AreOrdered (layout_of a) a.opened.columns
  pub started : AreOrdered (layout_of a) (with_start a.start a.opened.columns)
