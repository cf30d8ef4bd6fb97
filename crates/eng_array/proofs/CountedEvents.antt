-- What is counted by one number for all items has room in a trace.
use Rattle.std.proofs.Common.{◌≡◌, ◌≤◌, ◌+◌, ◌*◌, ℕ, zero, suc, List, [], ◌∷◌, length, refl, arith, Some}
use Rattle.std.specs.Prelude.{slice_get, slice_set}
use Rattle.std.proofs.Math.Nat.{mul-le-mul, mul-suc, mul_comm, suc-mul}
use Rattle.std.proofs.lemmas.List.{length-set, length-map}
use Rattle.lay_core.specs.Layout.{Shape}
use Rattle.lay_core.specs.declared.layout.Layout.{Ghosts as LayoutGhosts}
use Rattle.graph_mean.specs.Graph.{Held}
use Rattle.eng_cols.specs.declared.column.Column.{Column}
use Rattle.eng_cols.specs.Cols.{ColumnState, Live, Dead, Filling, Spread, state_set}
use Rattle.eng_world.specs.declared.item.Item.{Item}
use Rattle.item_list.specs.ItemList.{ItemList}
use Rattle.eng_rest.specs.Left.{below, alive}
use Rattle.eng_rest.proofs.Summing.{below-le}
use Rattle.eng_log.specs.Given.{items_at}
use Rattle.eng_parts.specs.declared.setup.Setup.{Setup}
use Rattle.eng_cols.specs.Stripes.{filled_in, states_of}
use Rattle.eng_array.specs.Fitting.{most_in, item_events, row_events, rebuild_events, counted_events, trace_sum, rebuilds_sum, BeginsAtMost, FitsTrace, FitsRebuilding}
use Rattle.eng_array.specs.Serving.{most_for_unit}

-- no more columns are alive than there are
pub alive-most : (cols : List ColumnState) → alive cols ≤ length cols
alive-most [] = omega arith
alive-most (Live device ∷ cols) = let a = alive-most cols in omega (arith, a)
alive-most (Dead ∷ cols) = let a = alive-most cols in omega (arith, a)
alive-most (Filling device done ∷ cols) = let a = alive-most cols in omega (arith, a)
alive-most (Spread done ∷ cols) = let a = alive-most cols in omega (arith, a)

-- there are as many states as columns
pub states-count : (y : Shape) (columns : List Column) → length (states_of y columns) ≡ length columns
states-count y columns = length-map columns (state_set y.stripes (filled_in y columns))

item-counted : (n devices m : ℕ) → n ≤ devices → item_events n m ≤ (2 * m + 4) * (1 + devices)
item-counted n devices m few =
    let a : n * (2 * m + 1) ≤ devices * (2 * m + 4) = mul-le-mul few (omega arith) in
    let b : (2 * m + 4) * suc devices ≡ (2 * m + 4) * devices + (2 * m + 4) = mul-suc (2 * m + 4) devices in
    let c : (2 * m + 4) * devices ≡ devices * (2 * m + 4) = mul_comm (2 * m + 4) devices in
    omega (arith, a, b, c)

below-same : (k n : ℕ) → below (λ s. k) n ≡ n * k
unfolding below
below-same k zero = omega arith
below-same k (suc n) = let rest = below-same k n in let more = suc-mul n k in omega (arith, rest, more)

module _ (y : Shape) (graphs : List Held) (devices : ℕ) where
  row-counted : (n : ℕ) (items : List Item) → n ≤ devices → row_events y graphs n items ≤ counted_events y graphs devices items
  row-counted n items few = below-le (λ i. (2 * most_in y graphs (slice_get items i) + 4) * (1 + devices)) (λ i. item_events n (most_in y graphs (slice_get items i))) (length items)
      (λ i l. item-counted n devices (most_in y graphs (slice_get items i)) few)

  rows-counted : (n : ℕ) (given : List ItemList) → n ≤ devices → below (λ c. row_events y graphs n (items_at given c)) 16 ≤ trace_sum y graphs devices given
  rows-counted n given few = below-le (λ c. counted_events y graphs devices (items_at given c)) (λ c. row_events y graphs n (items_at given c)) 16 (λ c l. row-counted n (items_at given c) few)

  rebuilds-counted : (n rebuilds : ℕ) → n ≤ devices → rebuild_events y n rebuilds ≤ rebuilds_sum y devices rebuilds
  rebuilds-counted n rebuilds few =
      let one = item-counted n devices (most_for_unit y) few in
      let a = below-le (λ s. (2 * most_for_unit y + 4) * (1 + devices)) (λ s. item_events n (most_for_unit y)) rebuilds (λ s l. one) in
      let b = below-same ((2 * most_for_unit y + 4) * (1 + devices)) rebuilds in
      omega (arith, a, b)

module _ {L D : Type 0} (lay : LayoutGhosts L) (setup : Setup L D) (devices : ℕ) (entries : length setup.columns.items ≡ (lay.shape setup.layout).columns) (few : (lay.shape setup.layout).columns ≤ devices) where
  abbrev y : Shape
  y = lay.shape setup.layout

  abbrev columns : List ColumnState
  columns = states_of y setup.columns.items

  pub counted-fits : trace_sum y setup.graphs.items devices setup.clients.items ≤ 1048576 → FitsTrace lay setup
  counted-fits sum on =
      let most = alive-most columns in
      let count = states-count y setup.columns.items in
      let rows = rows-counted y setup.graphs.items devices (alive columns) setup.clients.items (omega (arith, most, count, entries, few)) in
      omega (arith, most, count, entries, few, rows, sum)

  pub counted-rebuilds : (cols : List ColumnState) (c asked rebuilds : ℕ) → length cols ≡ (lay.shape setup.layout).columns → BeginsAtMost y cols c asked rebuilds → trace_sum y setup.graphs.items devices setup.clients.items + rebuilds_sum y devices rebuilds ≤ 1048576 → FitsRebuilding lay setup cols c asked
  counted-rebuilds cols c asked rebuilds count at-most sum on =
      let most = alive-most cols in
      let enough : alive cols ≤ devices = omega (arith, most, count, few) in
      let rows = rows-counted y setup.graphs.items devices (alive cols) setup.clients.items enough in
      let counted = rebuilds-counted y setup.graphs.items devices (alive cols) rebuilds enough in
      (rebuilds, at-most, omega (arith, most, count, rows, counted, sum))
