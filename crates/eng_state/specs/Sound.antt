-- What a core keeps beside what it shows.
use Rattle.std.specs.Prelude.{◌≡◌, ◌≢◌, ◌<◌, ◌≤◌, ◌+◌, ◌*◌, ℕ, List, [], length, true, false, Some, None, IsSome, Contains, sum_by}
use Rattle.blk_plain.specs.declared.op.Op.{Op}
use Rattle.blk_disk.specs.declared.disk.Disk.{Ghosts as DiskGhosts}
use Rattle.buf_pool.specs.Pool as pool
use Rattle.stripe_lock.specs.Table.{Table, owners_of, mode_of, HoldsNothing}
use Rattle.stripe_lock.specs.declared.mode.Mode.{Mode}
use Rattle.stripe_lock.specs.declared.mode.Mode.TheVariants.{Share, Exclude}
use Rattle.lay_core.specs.Layout.{Shape, IsLayout}
use Rattle.lay_core.specs.declared.layout.Layout.{Ghosts as LayoutGhosts}
use Rattle.graph_mean.specs.declared.step.Status.{Status}
use Rattle.graph_mean.specs.declared.step.Status.TheVariants as status
use Rattle.graph_mean.specs.declared.task.Kind.{Kind}
use Rattle.graph_mean.specs.declared.task.Kind.TheVariants as kind
use Rattle.graph_mean.specs.Graph.{Held, kind_at}
use Rattle.graph_mean.specs.Task.{missing_of}
use Rattle.graph_mean.specs.Steps.{IsCall}
use Rattle.graph_mean.specs.Ordered.{Accepted}
use Rattle.eng_one.specs.Control.{mark_of, IsReached}
use Rattle.eng_cols.specs.declared.spot.Spot.{Spot}
use Rattle.eng_cols.specs.Cols.{Columns, IsFor, IsKept, HasDevice, InOrder}
use Rattle.eng_world.specs.declared.item.Item.TheVariants as item
use Rattle.eng_world.specs.Nodes.{MakesOrUses}
use Rattle.eng_world.specs.Planning.{IsTaskOf}
use Rattle.eng_clients.specs.declared.stage.Stage.TheVariants.{Runs}
use Rattle.eng_state.specs.declared.array.Array.{Array}
use Rattle.eng_parts.specs.Shelf.{Seen, Shelved, seen_at, IsAway, has_failed}
use Rattle.eng_clients.specs.Seats.{seat_of}
use Rattle.eng_clients.specs.Desk.{Desk, Lends, desk_at, item_at, plan_of, spot_at}

-- ## What is out

-- node n of the desk is out
pub record IsOutOf (d : Desk) (n : ℕ) : Type 0 where
  pub runs : d.stage ≡ Runs
  pub mark : mark_of d.run n ≡ status.Out

-- and its unit stood on this device as it was fired
pub record HasAway (desks : List Desk) (c n device : ℕ) : Type 0 where
  pub out : IsOutOf (desk_at desks c) n
  pub at : Spot
  pub spot : spot_at (desk_at desks c) n ≡ Some at
  pub is : at.device ≡ device

-- a device is out exactly with one node, whose unit stood on it as it was fired
pub record DevicesOut {D : Type 0} (desks : List Desk) (s : Shelved D) : Type 0 where
  pub away : (c n device : ℕ) → HasAway desks c n device → (x : D) × IsAway s device x
  pub held : (device : ℕ) (x : D) → IsAway s device x → (c : ℕ) × (n : ℕ) × HasAway desks c n device
  pub one : (c k n m device : ℕ) → HasAway desks c n device → HasAway desks k m device → (c ≡ k) × (n ≡ m)
  pub placed : (c n : ℕ) → IsOutOf (desk_at desks c) n → IsCall (kind_at (desk_at desks c).run.graph n) → IsSome (spot_at (desk_at desks c) n)
  pub unplaced : (c n : ℕ) → IsOutOf (desk_at desks c) n → (IsCall (kind_at (desk_at desks c).run.graph n) → ⊥) → spot_at (desk_at desks c) n ≡ None

-- a buffer of a lease is out exactly with one node that makes or uses it
pub record SeatsOut (desks : List Desk) (p : pool.PoolView) : Type 0 where
  pub away : (c n b : ℕ) → IsOutOf (desk_at desks c) n → MakesOrUses (desk_at desks c).run.graph n b → (seat_of p (desk_at desks c) b).out ≡ true
  pub held : (c b : ℕ) → (desk_at desks c).stage ≡ Runs → b < length (desk_at desks c).lease → (seat_of p (desk_at desks c) b).out ≡ true → (n : ℕ) × IsOutOf (desk_at desks c) n × MakesOrUses (desk_at desks c).run.graph n b
  pub one : (c n m b : ℕ) → IsOutOf (desk_at desks c) n → IsOutOf (desk_at desks c) m → MakesOrUses (desk_at desks c).run.graph n b → MakesOrUses (desk_at desks c).run.graph m b → n ≡ m

-- 1 for a node that is out
abbrev pub jobs_at : Status → ℕ
jobs_at status.Idle = 0
jobs_at status.Out = 1
jobs_at status.Good = 0
jobs_at status.Bad = 0
jobs_at status.Skipped = 0

-- how many nodes of a desk are out
abbrev pub jobs_of : Desk → ℕ
jobs_of d = sum_by jobs_at d.run.marks

-- ## What runs

-- how an operation of this kind holds its stripes
abbrev pub mode_for : Kind → Mode
mode_for kind.Read = Share
mode_for kind.Write = Exclude
mode_for (kind.Rebuild unit) = Exclude
mode_for kind.Sync = Exclude

-- What is so of an operation that runs: the graph that it lends is the one that its run was started with, which the checker or the planner accepted for its task; and steps have led its run to where it stands.
pub record RunsWell (y : Shape) (graphs : List Held) (p : pool.PoolView) (d : Desk) : Type 0 where
  pub op : Op
  pub item : item_at d ≡ Some (item.Run op d.file)
  pub task : IsTaskOf y op (plan_of d)
  pub stripes : length d.map.stripes ≡ d.task.stripes
  pub lends : Lends graphs d
  pub few : length d.run.graph.nodes ≤ 2048
  pub few_bufs : length d.run.graph.bufs ≤ 2048
  pub marks : length d.run.marks ≡ length d.run.graph.nodes
  pub accepted : Accepted d.run.graph d.task (missing_of d.missing)
  pub reached : IsReached d.run.graph d.run
  pub lease : pool.IsLease p d.lease
  pub bufs : length d.run.graph.bufs ≤ length d.lease

-- What is so of any client: one that doesn't run has no lease, and none of its nodes is out.
pub record IsWell (y : Shape) (graphs : List Held) (p : pool.PoolView) (d : Desk) : Type 0 where
  pub runs : d.stage ≡ Runs → RunsWell y graphs p d
  pub idle : d.stage ≢ Runs → (d.lease ≡ []) × (jobs_of d ≡ 0)
  pub spots : length d.spots ≡ 2048
  pub replies : length d.replies ≤ length d.items

-- each client is, and no two have a buffer in common
pub record AreWell (y : Shape) (graphs : List Held) (p : pool.PoolView) (desks : List Desk) : Type 0 where
  pub all : length desks ≡ 17
  pub each : (c : ℕ) → c < 17 → IsWell y graphs p (desk_at desks c)
  pub apart : (c k : ℕ) → c ≢ k → pool.AreApart (desk_at desks c).lease (desk_at desks k).lease

-- ## Locks

-- the stripes that are held are those of the running operations
pub record Locked (desks : List Desk) (locks : Table) : Type 0 where
  pub owners : owners_of locks ≡ 17
  pub each : (c s : ℕ) → (desk_at desks c).stage ≡ Runs → Contains (desk_at desks c).map.stripes s → mode_of locks c s ≡ Some (mode_for (desk_at desks c).task.kind)
  pub only : (c s : ℕ) → (desk_at desks c).stage ≡ Runs → (Contains (desk_at desks c).map.stripes s → ⊥) → mode_of locks c s ≡ None
  pub idle : (c : ℕ) → (desk_at desks c).stage ≢ Runs → HoldsNothing locks c

-- ## Devices and columns

-- each device of a column is there, has room for the rows and hasn't failed; and the columns are in order
pub record Seated {D : Type 0} (disk : DiskGhosts D) (y : Shape) (cols : Columns) (s : Shelved D) : Type 0 where
  pub fit : IsFor y cols
  pub kept : IsKept cols
  pub order : InOrder cols.states
  pub long : length s.failed ≡ length s.slots
  pub there : (c device : ℕ) → HasDevice cols.states c device → (x : Seen D) × (seen_at s device ≡ Some x) × (64 + y.rows * y.unit_sectors ≤ disk.size x.device)
  pub unfailed : (c device : ℕ) → HasDevice cols.states c device → has_failed s device ≡ false

-- ## All of it

module _ {L D : Type 0} (lay : LayoutGhosts L) (disk : DiskGhosts D) where
  -- all of it
  pub record IsSound (core : Array L D) : Type 0 where
    pub layout : IsLayout (lay.shape core.layout)
    pub seated : Seated disk (lay.shape core.layout) core.cols core.devices
    pub unit : core.pool.unit ≡ 512 * (lay.shape core.layout).unit_sectors
    pub well : AreWell (lay.shape core.layout) core.graphs.items core.pool core.clients
    pub devices : DevicesOut core.clients core.devices
    pub seats : SeatsOut core.clients core.pool
    pub locked : Locked core.clients core.locks
    pub jobs : core.lists + sum_by jobs_of core.clients ≡ 32
