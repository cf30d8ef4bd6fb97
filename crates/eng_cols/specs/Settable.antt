-- Columns that an array may be set to.
use Rattle.std.specs.Prelude.{◌≡◌, ◌≤◌, List, length, count_by}
use Rattle.lay_core.specs.Layout.{Shape}
use Rattle.eng_cols.specs.declared.column.Column.{Column}
use Rattle.eng_cols.specs.Cols.{is_set_filling, is_set_spread}

-- There is one for each column of the layout; at most one is filling, and at most one is spread.
pub record IsSettable (y : Shape) (columns : List Column) : Type 0 where
  pub entries : length columns ≡ y.columns
  pub filling : count_by is_set_filling columns ≤ 1
  pub spread : count_by is_set_spread columns ≤ 1
