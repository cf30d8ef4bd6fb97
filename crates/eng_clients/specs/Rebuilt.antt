-- What a rebuild has made again, and what its end does to the columns.
use Rattle.std.specs.Prelude.{◌≡◌, ◌<◌, ◌⊎◌, ℕ, List, true, Option, Some, None, slice_index}
use Rattle.blk_plain.specs.declared.op.Op.{Op}
use Rattle.blk_plain.specs.declared.op.Op.TheVariants as op
use Rattle.lay_core.specs.Layout.{Shape}
use Rattle.graph_mean.specs.declared.step.Status.TheVariants as status
use Rattle.graph_mean.specs.Task.{is_rebuild_of}
use Rattle.graph_mean.specs.Steps.{Writes}
use Rattle.eng_one.specs.Control.{mark_of}
use Rattle.eng_cols.specs.declared.spot.Spot.{Spot}
use Rattle.eng_cols.specs.Cols.{ColumnState}
use Rattle.eng_cols.specs.Seats.{target}
use Rattle.eng_world.specs.declared.item.Item.{Item}
use Rattle.eng_world.specs.declared.item.Item.TheVariants as item
use Rattle.eng_clients.specs.Desk.{Desk}
use Rattle.eng_log.specs.Log.{Logged, counted}

-- the operation is a rebuild
abbrev pub IsRebuildOp : Op → Type 0
IsRebuildOp (op.Rebuild stripe) = Unit {0}
IsRebuildOp (op.Write span pattern) = ⊥
IsRebuildOp (op.Writes patches) = ⊥
IsRebuildOp (op.Read span) = ⊥
IsRebuildOp (op.Sync stripe) = ⊥

abbrev pub IsRebuild : Option Item → Type 0
IsRebuild (Some (item.Run op graph)) = IsRebuildOp op
IsRebuild (Some (item.Fail column)) = ⊥
IsRebuild None = ⊥

-- node n has written this sector of the first stripe, good
abbrev pub WroteGood : Desk → ℕ → ℕ → ℕ → Type 0
WroteGood d n unit o = Writes d.run.graph n 0 unit o × (mark_of d.run n ≡ status.Good)

-- nodes have written each sector of the unit so
abbrev pub WroteAll : Desk → ℕ → Type 0
WroteAll d unit = (o : ℕ) → o < d.task.unit_sectors → (n : ℕ) × WroteGood d n unit o

-- the operation is the rebuild of this unit, has written all of it, and its target is still alive
pub record HasRebuilt (y : Shape) (cols : List ColumnState) (d : Desk) (unit : ℕ) : Type 0 where
  pub own : is_rebuild_of d.task.kind unit ≡ true
  pub wrote : WroteAll d unit
  pub alive : (at : Spot) × (target y cols (slice_index d.map.stripes 0) unit ≡ Some at)

-- ## What its end does

-- a stripe is counted exactly where a unit was rebuilt
abbrev pub CountsRebuilt : Shape → List ColumnState → Desk → Logged → Logged → Type 0
CountsRebuilt y cols d old new =
    ((unit : ℕ) × HasRebuilt y cols d unit × (new ≡ counted old))
    ⊎ (((unit : ℕ) → HasRebuilt y cols d unit → ⊥) × (new ≡ old))
