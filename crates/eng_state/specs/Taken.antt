-- What becomes of the core as an operation is taken, refused, planned anew or given up.
use Rattle.std.specs.Prelude.{◌≡◌, ℕ, List, Option, Some, None, slice_set, ◌⊎◌}
use Rattle.blk_plain.specs.declared.op.Op.{Op}
use Rattle.buf_pool.specs.Pool as held
use Rattle.stripe_lock.specs.Table as table
use Rattle.lay_core.specs.declared.layout.Layout.{Ghosts as LayoutGhosts}
use Rattle.graph_mean.specs.declared.refusal.Refusal.{Refusal}
use Rattle.eng_world.specs.declared.item.Reply.{Reply}
use Rattle.eng_world.specs.declared.item.Reply.TheVariants as reply
use Rattle.eng_state.specs.Serves.{Serves}
use Rattle.eng_world.specs.declared.item.Traced.{Traced}
use Rattle.eng_state.specs.declared.array.Array.{Array}
use Rattle.eng_clients.specs.Desk.{Desk, desk_at, graph_of, with_reply, with_started, with_lease}
use Rattle.eng_log.specs.Log.{noted}
use Rattle.eng_clients.specs.Planned.{CanRun, IsRefusedFor, Replanned}
use Rattle.eng_plan.specs.Asked.{mode_by, lease_for}
use Rattle.eng_log.specs.Filled.{Filled}

-- ## What becomes of a client

-- ## What becomes of the core

module _ {L D : Type 0} (lay : LayoutGhosts L) where
  -- nothing but a client's plan has changed, and the room in which graphs are checked
  pub record PlannedFor (old : Array L D) (c : ℕ) (op : Op) (file : Option ℕ) (new : Array L D) : Type 0 where
    pub desk : Replanned (lay.shape old.layout) old.graphs.items old.cols.states op file (desk_at old.clients c) (desk_at new.clients c)
    pub now : new ≡ record old { clients = slice_set old.clients c (desk_at new.clients c); scratch = new.scratch }

  -- but clients, pool, locks and log, and the room in which graphs are checked
  pub record SameRest (old new : Array L D) : Type 0 where
    pub layout : new.layout ≡ old.layout
    pub cols : new.cols ≡ old.cols
    pub devices : new.devices ≡ old.devices
    pub lists : new.lists ≡ old.lists
    pub graphs : new.graphs ≡ old.graphs
    pub lost : new.lost ≡ old.lost
    pub spare : new.spare ≡ old.spare

  -- the planned operation runs, with stripes and buffers of its own
  pub record Settled (old : Array L D) (c : ℕ) (op : Op) (file : Option ℕ) (new : Array L D) : Type 0 where
    pub lease : List ℕ
    pub mid : held.PoolView
    pub locks : table.Acquires old.locks c (desk_at old.clients c).map.stripes (mode_by op) new.locks
    pub leases : held.Leases old.pool (lease_for (lay.shape old.layout) old.graphs.items op file) lease mid
    pub apart : held.StandsApart old.pool lease mid
    pub filled : Filled (lay.shape old.layout) (desk_at old.clients c).map.stripes (graph_of old.graphs.items (desk_at old.clients c)) op lease mid new.pool
    pub now : new ≡ record old { locks = new.locks; pool = new.pool; clients = slice_set old.clients c (with_started old.graphs.items (with_lease (desk_at old.clients c) lease)) }

  -- the operation was planned and runs, with stripes and buffers of its own
  pub record Taken (old : Array L D) (c : ℕ) (op : Op) (file : Option ℕ) (event : Traced) (new : Array L D) : Type 0 where
    pub plan : Desk
    pub replanned : Replanned (lay.shape old.layout) old.graphs.items old.cols.states op file (desk_at old.clients c) plan
    pub runs : CanRun old.graphs.items plan
    pub lease : List ℕ
    pub clients : new.clients ≡ slice_set old.clients c (with_started old.graphs.items (with_lease plan lease))
    pub locks : table.Acquires old.locks c plan.map.stripes (mode_by op) new.locks
    pub mid : held.PoolView
    pub leases : held.Leases old.pool (lease_for (lay.shape old.layout) old.graphs.items op file) lease mid
    pub apart : held.StandsApart old.pool lease mid
    pub filled : Filled (lay.shape old.layout) plan.map.stripes (graph_of old.graphs.items plan) op lease mid new.pool
    pub log : new.log ≡ noted old.log event
    pub rest : SameRest old new

  -- its graph was refused, and the item replied so
  pub record Refused (old : Array L D) (c : ℕ) (op : Op) (file : Option ℕ) (cause : Refusal) (reply : Reply) (event : Traced) (new : Array L D) : Type 0 where
    pub plan : Desk
    pub replanned : Replanned (lay.shape old.layout) old.graphs.items old.cols.states op file (desk_at old.clients c) plan
    pub refused : IsRefusedFor old.graphs.items file plan cause
    pub clients : new.clients ≡ slice_set old.clients c (with_reply plan reply)
    pub locks : new.locks ≡ old.locks
    pub pool : new.pool ≡ old.pool
    pub log : new.log ≡ noted old.log event
    pub rest : SameRest old new

  -- the client's operation was taken, or its graph refused
  pub record IsTaken (old : Array L D) (c : ℕ) (event : Traced) (new : Array L D) : Type 0 where
    pub op : Op
    pub file : Option ℕ
    pub serves : Serves old.graphs.items (lay.shape old.layout) (desk_at old.clients c) op file
    pub became : Taken old c op file event new ⊎ ((cause : Refusal) × Refused old c op file cause (reply.Refused cause) event new)

  -- it was planned anew, under the same locks and on the same buffers
  pub record Replaced (old : Array L D) (c : ℕ) (op : Op) (event : Traced) (new : Array L D) : Type 0 where
    pub plan : Desk
    pub replanned : Replanned (lay.shape old.layout) old.graphs.items old.cols.states op None (desk_at old.clients c) plan
    pub runs : CanRun old.graphs.items plan
    pub clients : new.clients ≡ slice_set old.clients c (with_started old.graphs.items plan)
    pub locks : new.locks ≡ old.locks
    pub filled : Filled (lay.shape old.layout) plan.map.stripes (graph_of old.graphs.items plan) op plan.lease old.pool new.pool
    pub log : new.log ≡ noted old.log event
    pub rest : SameRest old new

  -- it was given up: its item is replied so, and its stripes and buffers are free
  pub record GivenUp (old : Array L D) (c : ℕ) (reply : Reply) (event : Traced) (new : Array L D) : Type 0 where
    pub clients : new.clients ≡ slice_set old.clients c (with_reply (desk_at old.clients c) reply)
    pub locks : table.Releases old.locks c new.locks
    pub pool : held.Returns old.pool (desk_at old.clients c).lease new.pool
    pub others : held.KeepsOthers old.pool (desk_at old.clients c).lease new.pool
    pub log : new.log ≡ noted old.log event
    pub rest : SameRest old new

  -- the client's operation, which was undone, was planned anew, or one by a graph of the file given up
  abbrev pub BackAs : Array L D → ℕ → Op → Option ℕ → Traced → Array L D → Type 0
  BackAs old c op None event new = Replaced old c op event new
  BackAs old c op (Some n) event new = (device : ℕ) × ((desk_at old.clients c).by ≡ Some device) × GivenUp old c (reply.Undone device) event new

  pub record IsBack (old : Array L D) (c : ℕ) (event : Traced) (new : Array L D) : Type 0 where
    pub op : Op
    pub file : Option ℕ
    pub serves : Serves old.graphs.items (lay.shape old.layout) (desk_at old.clients c) op file
    pub became : BackAs old c op file event new
