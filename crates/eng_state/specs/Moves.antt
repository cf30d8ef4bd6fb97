-- What a call changes of the core's parts.
use Rattle.std.specs.Prelude.{◌≡◌, ◌<◌, ◌+◌, ℕ, List, length, false, Option, Some, None, slice_set, get_or}
use Rattle.blk_plain.specs.declared.op.OpId.{OpId}
use Rattle.blk_disk.specs.declared.disk.Disk.{Ghosts as DiskGhosts}
use Rattle.buf_pool.specs.Pool as pool
use Rattle.lay_core.specs.declared.layout.Layout.{Ghosts as LayoutGhosts}
use Rattle.graph_mean.specs.declared.step.Status.TheVariants as status
use Rattle.graph_mean.specs.Graph.{kind_at}
use Rattle.eng_one.specs.Control.{mark_of, MayEnd}
use Rattle.eng_cols.specs.declared.spot.Spot.{Spot}
use Rattle.eng_world.specs.declared.item.Traced.TheVariants as event
use Rattle.eng_world.specs.Nodes.{MakesOrUses}
use Rattle.eng_state.specs.declared.array.Array.{Array}
use Rattle.eng_parts.specs.Shelf.{Shelved, seen_at, IsAway, left, come_home}
use Rattle.eng_clients.specs.Desk.{Desk, Lends, desk_at, spot_at, with_fired, with_ended, with_reply}
use Rattle.eng_world.specs.declared.item.Reply.{Reply}
use Rattle.stripe_lock.specs.Table.{Releases}
use Rattle.blk_plain.specs.declared.op.Outcome.{Outcome}
use Rattle.blk_plain.specs.declared.op.Outcome.TheVariants.{Good}
use Rattle.eng_log.specs.Log.{noted}
use Rattle.eng_state.specs.Can.{place_now}
use Rattle.eng_clients.specs.Seats.{BuffersLeft, BuffersCame}

-- the name of the operation that a client serves now
abbrev pub id_of : List Desk → ℕ → OpId
id_of desks c = record { client = c; index = length (desk_at desks c).replies }

-- the device of this place left, if there is one
abbrev pub DeviceLeft : {D : Type 0} → Option Spot → Shelved D → Shelved D → Type 0
DeviceLeft None old new = new ≡ old
DeviceLeft {D} (Some at) old new = (x : D) × (seen_at old at.device ≡ Some (record { out = false; device = x })) × (new ≡ left old at.device x)

-- the device of this place came home with this size, if there is one
abbrev pub DeviceCame : {D : Type 0} → DiskGhosts D → Option Spot → Shelved D → Shelved D → Type 0
DeviceCame disk None old new = new ≡ old
DeviceCame {D} disk (Some at) old new = (x : D) × (before : D) × (IsAway old at.device before) × (disk.size x ≡ disk.size before) × (new ≡ come_home old at.device x)

-- the seat is one of a buffer that the node makes or uses
abbrev pub IsTaken : Desk → ℕ → ℕ → Type 0
IsTaken d n k = (b : ℕ) × MakesOrUses d.run.graph n b × (get_or d.lease b 0 ≡ k)

module _ {L D : Type 0} (lay : LayoutGhosts L) where
  -- node n of client c was fired: it is marked, and its device, its buffers and a list are out
  pub record Fired (old : Array L D) (c n : ℕ) (new : Array L D) : Type 0 where
    pub clients : new.clients ≡ slice_set old.clients c (with_fired (desk_at old.clients c) n (place_now lay old c n))
    pub devices : DeviceLeft (place_now lay old c n) old.devices new.devices
    pub pool : BuffersLeft old.pool (IsTaken (desk_at old.clients c) n) new.pool
    pub lists : new.lists + 1 ≡ old.lists
    pub log : new.log ≡ noted old.log (event.Fire (id_of old.clients c) n)
    pub layout : new.layout ≡ old.layout
    pub cols : new.cols ≡ old.cols
    pub locks : new.locks ≡ old.locks
    pub graphs : new.graphs ≡ old.graphs
    pub lost : new.lost ≡ old.lost
    pub spare : new.spare ≡ old.spare

module _ {L D : Type 0} where
  -- Node n of client c is out, one of the graph that the client runs, and may end so.
  pub record CanEnd (core : Array L D) (c n : ℕ) (outcome : Outcome) : Type 0 where
    pub lends : Lends core.graphs.items (desk_at core.clients c)
    pub node : n < length (desk_at core.clients c).run.graph.nodes
    pub out : mark_of (desk_at core.clients c).run n ≡ status.Out
    pub may : MayEnd outcome (kind_at (desk_at core.clients c).run.graph n) (desk_at core.clients c).run.phase

  -- A call's device and buffer came home, with what they hold now, and its list; and the node has ended so.
  pub record CameHome (old : Array L D) (c n b : ℕ) (at : Spot) (disk : D) (bytes : List ℕ) (outcome : Outcome) (new : Array L D) : Type 0 where
    pub clients : new.clients ≡ slice_set old.clients c (with_ended (desk_at old.clients c) n outcome)
    pub devices : new.devices ≡ come_home old.devices at.device disk
    pub pool : new.pool ≡ pool.put old.pool (get_or (desk_at old.clients c).lease b 0) bytes
    pub lists : new.lists ≡ old.lists + 1
    pub log : new.log ≡ old.log
    pub layout : new.layout ≡ old.layout
    pub cols : new.cols ≡ old.cols
    pub locks : new.locks ≡ old.locks
    pub graphs : new.graphs ≡ old.graphs
    pub lost : new.lost ≡ old.lost
    pub spare : new.spare ≡ old.spare

  -- Node n of client c has ended so, and neither lost nor tells of it here: its device, its buffers and its list are home, and else nothing has changed but the log.
  pub record NodeEnded (disk : DiskGhosts D) (old : Array L D) (c n : ℕ) (outcome : Outcome) (new : Array L D) : Type 0 where
    pub clients : new.clients ≡ slice_set old.clients c (with_ended (desk_at old.clients c) n outcome)
    pub devices : DeviceCame disk (spot_at (desk_at old.clients c) n) old.devices new.devices
    pub pool : BuffersCame old.pool (IsTaken (desk_at old.clients c) n) new.pool
    pub lists : new.lists ≡ old.lists + 1
    pub layout : new.layout ≡ old.layout
    pub cols : new.cols ≡ old.cols
    pub locks : new.locks ≡ old.locks
    pub graphs : new.graphs ≡ old.graphs

  -- A list came home, and a node that took nothing else along has ended so.
  pub record CamePlain (old : Array L D) (c n : ℕ) (outcome : Outcome) (new : Array L D) : Type 0 where
    pub clients : new.clients ≡ slice_set old.clients c (with_ended (desk_at old.clients c) n outcome)
    pub lists : new.lists ≡ old.lists + 1
    pub devices : new.devices ≡ old.devices
    pub pool : new.pool ≡ old.pool
    pub log : new.log ≡ old.log
    pub layout : new.layout ≡ old.layout
    pub cols : new.cols ≡ old.cols
    pub locks : new.locks ≡ old.locks
    pub graphs : new.graphs ≡ old.graphs
    pub lost : new.lost ≡ old.lost
    pub spare : new.spare ≡ old.spare

  -- the client's item was replied, and its stripes and buffers were given back; of the log nothing is said
  pub record Released (old : Array L D) (c : ℕ) (reply : Reply) (new : Array L D) : Type 0 where
    pub clients : new.clients ≡ slice_set old.clients c (with_reply (desk_at old.clients c) reply)
    pub leases : pool.KeepsOthers old.pool (desk_at old.clients c).lease new.pool
    pub pool : pool.Returns old.pool (desk_at old.clients c).lease new.pool
    pub locks : Releases old.locks c new.locks
    pub lists : new.lists ≡ old.lists
    pub devices : new.devices ≡ old.devices
    pub layout : new.layout ≡ old.layout
    pub cols : new.cols ≡ old.cols
    pub graphs : new.graphs ≡ old.graphs
    pub lost : new.lost ≡ old.lost
    pub spare : new.spare ≡ old.spare

  -- Node n of client c, the terminator, has ended good: its item was replied so, and its list, its stripes and its buffers were given back.
  pub record Terminated (old : Array L D) (c n : ℕ) (reply : Reply) (new : Array L D) : Type 0 where
    pub clients : new.clients ≡ slice_set old.clients c (with_reply (with_ended (desk_at old.clients c) n Good) reply)
    pub leases : pool.KeepsOthers old.pool (desk_at old.clients c).lease new.pool
    pub pool : pool.Returns old.pool (desk_at old.clients c).lease new.pool
    pub locks : Releases old.locks c new.locks
    pub lists : new.lists ≡ old.lists + 1
    pub devices : new.devices ≡ old.devices
    pub log : new.log ≡ old.log
    pub layout : new.layout ≡ old.layout
    pub cols : new.cols ≡ old.cols
    pub graphs : new.graphs ≡ old.graphs
    pub lost : new.lost ≡ old.lost
    pub spare : new.spare ≡ old.spare

  -- client c alone is another
  pub record OnlyClient (old : Array L D) (c : ℕ) (d : Desk) (new : Array L D) : Type 0 where
    pub clients : new.clients ≡ slice_set old.clients c d
    pub pool : new.pool ≡ old.pool
    pub locks : new.locks ≡ old.locks
    pub lists : new.lists ≡ old.lists
    pub devices : new.devices ≡ old.devices
    pub layout : new.layout ≡ old.layout
    pub cols : new.cols ≡ old.cols
    pub graphs : new.graphs ≡ old.graphs
    pub lost : new.lost ≡ old.lost
