-- The traces of short scripts.
use Rattle.std.proofs.Common.{ℕ, ◌≤◌, List, [], ◌∷◌, None, length, arith}
use Rattle.std.specs.Prelude.{◌+◌, ◌*◌}
use Rattle.blk_plain.specs.declared.op.Op.TheVariants.{Write, Read}
use Rattle.blk_plain.specs.declared.op.Pattern.{Pattern}
use Rattle.lay_core.specs.Layout.{Shape}
use Rattle.lay_plain.specs.LeftSymmetric.{left_symmetric}
use Rattle.eng_cols.specs.Cols.{ColumnState}
use Rattle.eng_rest.specs.Left.{below, alive}
use Rattle.eng_world.specs.declared.item.Item.TheVariants as item
use Rattle.item_list.specs.ItemList.{ItemList}
use Rattle.eng_array.specs.Fitting.{row_events, opening_events}
use Rattle.eng_array.proofs.CountedEvents.{alive-most}

-- one client's events, where there are at most five columns
pub one-script : (y : Shape) (cols : List ColumnState) (items : ItemList) → length cols ≤ 5 → ((n : ℕ) → row_events y [] n items.items ≤ 72 + n * 70) → opening_events y [] cols (items ∷ []) ≤ 1048576
unfolding below
one-script y cols items few short = let a = alive-most cols in let s = short (alive cols) in omega (arith, a, s, few)

-- a write of a whole stripe of five columns
pub whole-stripe : (p : Pattern) (n : ℕ) → row_events (left_symmetric 5 1 64) [] n (item.Run (Write (record { first = 0; count = 4 }) p) None ∷ []) ≤ 72 + n * 70
unfolding below
whole-stripe p n = omega arith

-- a write and a read of a block of three columns
pub write-and-read : (p : Pattern) (n : ℕ) → row_events (left_symmetric 3 1 64) [] n (item.Run (Write (record { first = 0; count = 1 }) p) None ∷ item.Run (Read (record { first = 0; count = 1 })) None ∷ []) ≤ 72 + n * 70
unfolding below
write-and-read p n = omega arith
