-- What is told of a column.
use Rattle.std.specs.Prelude.{◌≡◌, ℕ, Some, slice_get}
use Rattle.blk_plain.specs.declared.op.OpId.{OpId}
use Rattle.eng_world.specs.declared.item.Item.TheVariants as item
use Rattle.eng_world.specs.declared.item.Reply.TheVariants as reply
use Rattle.raid_script.specs.Replies.{items_at, replies_at}
use Rattle.top_run.specs.Work.{Service}
use Rattle.top_run.specs.declared.service.Line.{Line}
use Rattle.top_run.specs.declared.service.Told.TheVariants as told

-- it is to be rebuilt, and is told to be stopped, so neither to be done nor to be paused
abbrev pub IsToldUnbuilt : Service → ℕ → Type 0
IsToldUnbuilt s c = (line : Line) × (s.line ≡ Some line) × (line.column ≡ c) × (line.told ≡ told.Stopped)

-- an item by which it fails is told to be replied ok
pub record IsToldFailed (s : Service) (c : ℕ) : Type 0 where
  pub id : OpId
  pub asked : slice_get (items_at s.clients id.client) id.index ≡ Some (item.Fail c)
  pub replied : slice_get (replies_at s.replies id.client) id.index ≡ Some reply.Okay
