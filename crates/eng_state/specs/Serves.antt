-- What a core keeps of the operations that wait or run, beside what `IsSound` says.
use Rattle.std.specs.Prelude.{◌≡◌, ◌≢◌, ◌<◌, ◌≤◌, ℕ, List, length, Option, Some, None, IsSome}
use Rattle.blk_plain.specs.declared.op.Op.{Op}
use Rattle.buf_pool.specs.Reserve.{AreThere}
use Rattle.stripe_lock.specs.Table.{mode_of}
use Rattle.stripe_lock.specs.declared.mode.Mode.{Mode}
use Rattle.stripe_lock.specs.declared.mode.Mode.TheVariants.{Share}
use Rattle.lay_core.specs.Layout.{Shape}
use Rattle.lay_core.specs.declared.layout.Layout.{Ghosts as LayoutGhosts}
use Rattle.graph_mean.specs.declared.step.Status.TheVariants as status
use Rattle.graph_mean.specs.declared.step.Phase.TheVariants as phase
use Rattle.graph_mean.specs.Graph.{Held}
use Rattle.eng_one.specs.Control.{mark_of}
use Rattle.eng_cols.specs.Lost.{NotLost}
use Rattle.eng_world.specs.declared.item.Item.TheVariants as item
use Rattle.eng_world.specs.Planning.{Concerns}
use Rattle.eng_clients.specs.declared.stage.Stage.TheVariants.{Nothing, Waits, Runs}
use Rattle.eng_state.specs.declared.array.Array.{Array}
use Rattle.eng_clients.specs.Desk.{Desk, desk_at, item_at}
use Rattle.eng_state.specs.Sound.{mode_for}
use Rattle.eng_plan.specs.Asked.{IsInside, IsOpSplit, mode_by, lease_for}

-- the client serves this operation, which is in range, and whose graph is there
pub record Serves (graphs : List Held) (y : Shape) (d : Desk) (op : Op) (file : Option ℕ) : Type 0 where
  pub item : item_at d ≡ Some (item.Run op file)
  pub inside : IsInside y op
  pub there : (n : ℕ) → file ≡ Some n → n < length graphs

-- It runs: its stripes are the operation's, held by the operation's mode, and so many buffers are leased; and once it is undone no node is out, and it is known by which device.
pub record RunsOn (graphs : List Held) (y : Shape) (d : Desk) (op : Op) (file : Option ℕ) : Type 0 where
  pub split : IsOpSplit y op d.map
  pub mode : mode_for d.task.kind ≡ mode_by op
  pub lease : length d.lease ≡ lease_for y graphs op file
  pub undone : d.run.phase ≡ phase.Undone → (n : ℕ) → mark_of d.run n ≢ status.Out
  pub by : d.run.phase ≡ phase.Undone → IsSome d.by

-- what is so of any client
pub record ServesWell (graphs : List Held) (y : Shape) (d : Desk) : Type 0 where
  pub busy : d.stage ≢ Nothing → (op : Op) × (file : Option ℕ) × Serves graphs y d op file
  pub runs : d.stage ≡ Runs → (op : Op) (file : Option ℕ) → Serves graphs y d op file → RunsOn graphs y d op file

module _ {L D : Type 0} (lay : LayoutGhosts L) where
  -- no stripe lacks more than its check unit makes up for, unless the array is lost, and each client is well
  pub record Stands (core : Array L D) : Type 0 where
    pub kept : core.lost ≡ None → NotLost (lay.shape core.layout) core.cols.states
    pub serves : (c : ℕ) → ServesWell core.graphs.items (lay.shape core.layout) (desk_at core.clients c)

  -- the operation waits, no other holds one of its stripes unless both read, and its buffers are free
  pub record CanTake (core : Array L D) (c : ℕ) : Type 0 where
    pub not_lost : core.lost ≡ None
    pub waits : (desk_at core.clients c).stage ≡ Waits
    pub is_free : (op : Op) (file : Option ℕ) → item_at (desk_at core.clients c) ≡ Some (item.Run op file) → (k s : ℕ) (m : Mode) → k ≢ c → Concerns (lay.shape core.layout) op s → mode_of core.locks k s ≡ Some m → (mode_by op ≡ Share) × (m ≡ Share)
    pub fits : (op : Op) (file : Option ℕ) → item_at (desk_at core.clients c) ≡ Some (item.Run op file) → lease_for (lay.shape core.layout) core.graphs.items op file ≤ length core.pool.free

  -- and so many of those that are free are there
  abbrev pub HasThere : Array L D → ℕ → Type 0
  HasThere core c = (op : Op) (file : Option ℕ) → item_at (desk_at core.clients c) ≡ Some (item.Run op file) → AreThere core.pool (lease_for (lay.shape core.layout) core.graphs.items op file)

  -- the operation is undone
  pub record CanBack (core : Array L D) (c : ℕ) : Type 0 where
    pub not_lost : core.lost ≡ None
    pub runs : (desk_at core.clients c).stage ≡ Runs
    pub undone : (desk_at core.clients c).run.phase ≡ phase.Undone
