-- What the maps of an array are marked before clients are served.
use Rattle.std.specs.Prelude.{◌≡◌, ◌≢◌, ◌⊎◌, ◌↔◌, ◌+◌, ◌<◌, ◌≤◌, ℕ, List, length, true, Option, Some, slice_get, unwrap_or, IsSomeAnd, option_and_then}
use Rattle.lay_core.specs.Layout.{Shape}
use Rattle.eng_array.specs.Starts.{column_of, most_of}
use Rattle.eng_array.specs.declared.start.Start.{Start}
use Rattle.eng_array.specs.declared.start.Start.TheVariants as start
use Rattle.eng_cols.specs.declared.column.Column.{Column}
use Rattle.eng_cols.specs.Cols.{ColumnState}
use Rattle.eng_cols.specs.Stripes.{is_stripe_of, states_of, done_set}
use Rattle.blk_plain.specs.declared.op.Op.{Op}
use Rattle.eng_world.specs.declared.item.Item.TheVariants as item
use Rattle.eng_world.specs.Planning.{Graphs, Concerns, IsLong, IsOut}
use Rattle.eng_world.specs.World.{World, IsRead}
use Rattle.raid_map.specs.Regions.{Marks as Map, is_marked, region_of}
use Rattle.lay_core.specs.Touched.{count_below}
use Rattle.raid_map.specs.Mapped.{ReadWrites}

-- The map marks what it marked, and what the other one marks.
pub record MarksOf (other old new : Map) : Type 0 where
  pub stripes : new.stripes ≡ old.stripes
  pub serial : new.serial ≡ old.serial
  pub count : length new.marks ≡ length old.marks
  pub marks : (r : ℕ) → (is_marked new.marks r ≡ true) ↔ ((is_marked old.marks r ≡ true) ⊎ (is_marked other.marks r ≡ true))

-- Stripe s is one of the column's; before it come at least so many of these, and fewer than so many and the number that is rebuilt at most.
pub record StripesFrom (y : Shape) (cols : List ColumnState) (c done most s : ℕ) : Type 0 where
  pub of_column : is_stripe_of y cols c s ≡ true
  pub past : done ≤ count_below (is_stripe_of y cols c) s
  pub few : count_below (is_stripe_of y cols c) s < done + most

-- how many stripes are done of the column whose rebuild goes on
abbrev pub done_on : Start → List Column → ℕ
done_on (start.Fill c device most) columns = 0
done_on (start.Resume c most) columns = unwrap_or (option_and_then done_set (slice_get columns c)) 0
done_on (start.Spread c) columns = 0

-- Client c, which isn't the array itself, asks for an operation in reach that may write and concerns stripe s: it is no read, or one whose graph has a write.
pub record IsAskedOf (y : Shape) (graphs : Graphs) (w : World) (s : ℕ) : Type 0 where
  pub client : ℕ
  pub number : ℕ
  pub op : Op
  pub graph : Option ℕ
  pub own : client ≢ 16
  pub is : slice_get (w.clients client).items number ≡ Some (item.Run op graph)
  pub writes : (IsRead (Some op) → ⊥) ⊎ ReadWrites graphs graph
  pub reach : (IsOut y op → ⊥) × (IsLong y op → ⊥)
  pub concerns : Concerns y op s

-- Exactly these regions are marked: those of the union of the maps as the array was opened; those of the stripes that such operations of a run concern; and those of the stripes that are to be rebuilt, by these columns.
pub record MarksExactly (y : Shape) (graphs : Graphs) (w : World) (columns : List Column) (how : Option Start) (union map : Map) : Type 0 where
  pub stripes : map.stripes ≡ union.stripes
  pub serial : map.serial ≡ union.serial
  pub marks : (r : ℕ) → (is_marked map.marks r ≡ true) ↔ ((is_marked union.marks r ≡ true)
      ⊎ ((s : ℕ) × (s < y.stripes) × (IsAskedOf y graphs w s ⊎ IsSomeAnd how (λ rebuild. StripesFrom y (states_of y columns) (column_of rebuild) (done_on rebuild columns) (most_of rebuild) s)) × (region_of y.stripes s ≡ r)))
