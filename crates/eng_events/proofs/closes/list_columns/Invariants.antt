use Rattle.std.proofs.Common.{◌≡◌, ◌≤◌, ◌<◌, ℕ, length, slice_get, vec_capacity}
use Rattle.std.specs.Prelude.{option_map}
use Rattle.eng_cols.specs.Cols.{column_with}
use Rattle.eng_cols.specs.Stripes.{leading}
use Rattle.eng_events.proofs.closes.list_columns.Given as goal

-- the columns so far
abbrev pub invariant-loop-column : goal.invariant-loop-column
invariant-loop-column g l = record {
  count : length l.columns.items ≡ l.column;
  each : (c : ℕ) → c < l.column → option_map (column_with (leading (g.L.Layout.shape l.layout) l.cols.states c)) (slice_get l.cols.states c) ≡ slice_get l.columns.items c;
  room : (g.L.Layout.shape l.layout).columns ≤ vec_capacity l.columns;
}
