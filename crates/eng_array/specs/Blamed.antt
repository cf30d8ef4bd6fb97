-- What a device has failed by.
use Rattle.std.specs.Prelude.{ℕ, List, Contains}
use Rattle.blk_plain.specs.declared.op.OpId.{OpId}
use Rattle.blk_disk.specs.Disk.{Rose}
use Rattle.blk_disk.specs.declared.disk.Disk.{Ghosts as DiskGhosts}
use Rattle.lay_core.specs.declared.layout.Layout.{Ghosts as LayoutGhosts}
use Rattle.eng_world.specs.declared.item.Item.TheVariants as item
use Rattle.eng_world.specs.declared.item.Reply.TheVariants as reply
use Rattle.eng_world.specs.declared.item.Traced.{Traced}
use Rattle.eng_world.specs.declared.item.Traced.TheVariants as event
use Rattle.eng_world.specs.World.{World}
use Rattle.eng_world.specs.Causes.{ItemAt}
use Rattle.eng_world.specs.Legal.{ReplyOf}
use Rattle.eng_world.specs.Rows.{HasHad}
use Rattle.eng_state.specs.declared.array.Array.{Array}
use Rattle.eng_array.specs.Tickets.{faults_at}

-- The events led from a core that shows world w to one that shows world x. Since then:
-- rose: the device's count of faults rose;
-- asked: an item was begun that a column fail which has had the device, and was replied ok;
-- outside: such a column failed, not by an item and not by a node.
pub data IsBlamed {L D : Type 0} (lay : LayoutGhosts L) (disk : DiskGhosts D) (old new : Array L D) (events : List Traced) (w x : World) (d : ℕ) : Type 0 where
  rose : Rose (faults_at lay disk old d) (faults_at lay disk new d) → IsBlamed lay disk old new events w x d
  asked : (id : OpId) (column : ℕ) → Contains events (event.Begin id) → ItemAt x id (item.Fail column) → ReplyOf x id reply.Okay → HasHad w events column d → IsBlamed lay disk old new events w x d
  outside : (column : ℕ) → Contains events (event.Fail column) → HasHad w events column d → IsBlamed lay disk old new events w x d
