-- What the end of a node writes to the log.
use Rattle.std.specs.Prelude.{◌≡◌, List, Option, Some, None}
use Rattle.blk_plain.specs.declared.op.Op.{Op}
use Rattle.blk_plain.specs.declared.op.Op.TheVariants as op
use Rattle.blk_plain.specs.declared.op.OpId.{OpId}
use Rattle.lay_core.specs.Layout.{Shape}
use Rattle.graph_mean.specs.declared.graph.Node.{Node}
use Rattle.graph_mean.specs.declared.graph.Node.TheVariants.{Rd, Wr, Xor, Cmt, Trm}
use Rattle.eng_cols.specs.Cols.{ColumnState}
use Rattle.eng_cols.specs.declared.spot.Loss.{Loss}
use Rattle.eng_world.specs.declared.item.Item.{Item}
use Rattle.eng_world.specs.declared.item.Item.TheVariants as item
use Rattle.eng_world.specs.declared.item.Traced.{Traced}
use Rattle.eng_clients.specs.Desk.{Desk, item_at}
use Rattle.eng_log.specs.Log.{Logged, noted, entered, with_bytes}
use Rattle.eng_clients.specs.Rebuilt.{CountsRebuilt}

module _ (y : Shape) (cols : List ColumnState) (d : Desk) (old : Logged) (event : Traced) (new : Logged) where
  -- at the terminator of an operation bytes are handed out by a read, and a stripe is counted where a rebuild has made its unit again
  abbrev pub LogEndsOp : Op → Type 0
  LogEndsOp (op.Write span pattern) = new ≡ noted old event
  LogEndsOp (op.Writes patches) = new ≡ noted old event
  LogEndsOp (op.Read span) = new ≡ noted (with_bytes old new.handed.bytes) event
  LogEndsOp (op.Rebuild stripe) = CountsRebuilt y cols d (noted old event) new
  LogEndsOp (op.Sync stripe) = new ≡ noted old event

  abbrev pub LogEndsItem : Option Item → Type 0
  LogEndsItem (Some (item.Run op file)) = LogEndsOp op
  LogEndsItem (Some (item.Fail column)) = new ≡ noted old event
  LogEndsItem None = new ≡ noted old event

  -- at a commit the operation enters the history, and any other node is only traced; once the array is lost each is
  abbrev pub LogEnds : OpId → Node → Option Loss → Type 0
  LogEnds id (Rd unit buf) lost = new ≡ noted old event
  LogEnds id (Wr unit buf) lost = new ≡ noted old event
  LogEnds id (Xor to) lost = new ≡ noted old event
  LogEnds id Cmt None = new ≡ noted (entered old id) event
  LogEnds id Cmt (Some loss) = new ≡ noted old event
  LogEnds id Trm None = LogEndsItem (item_at d)
  LogEnds id Trm (Some loss) = new ≡ noted old event
