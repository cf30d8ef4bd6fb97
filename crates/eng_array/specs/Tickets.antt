-- How a core and the tickets of all passes fit together, and what one turn may do. A ticket is the job of a node that is out, as it left.
use Rattle.std.specs.Prelude.{◌≡◌, ◌<◌, ◌+◌, ◌++◌, ◌&&◌, ◌==◌, if◌then◌else◌, ℕ, Bool, true, false, List, [], ◌∷◌, length, map, sum_by, Option, Some, None}
use Rattle.blk_disk.specs.Devices.{Changes}
use Rattle.blk_disk.specs.Disk.{Rose}
use Rattle.blk_disk.specs.declared.disk.Disk.{Ghosts as DiskGhosts}
use Rattle.lay_core.specs.Layout.{Shape}
use Rattle.lay_core.specs.declared.layout.Layout.{Ghosts as LayoutGhosts}
use Rattle.graph_mean.specs.declared.step.Status.{Status}
use Rattle.eng_one.specs.Control.{mark_of}
use Rattle.eng_job.specs.declared.job.Job.{Job}
use Rattle.eng_world.specs.declared.item.Item.{Item}
use Rattle.eng_world.specs.declared.item.Traced.{Traced}
use Rattle.eng_world.specs.declared.item.Traced.TheVariants as event
use Rattle.eng_world.specs.Pool.{job_of}
use Rattle.eng_world.specs.Planning.{Graphs}
use Rattle.eng_rest.specs.Left.{IsOwn}
use Rattle.eng_clients.specs.declared.stage.Stage.{Stage}
use Rattle.eng_clients.specs.declared.stage.Stage.TheVariants.{Nothing, Waits, Runs}
use Rattle.eng_state.specs.declared.array.Array.{Array}
use Rattle.eng_parts.specs.Shelf.{Seen, seen_at, has_failed}
use Rattle.eng_clients.specs.Desk.{Desk, desk_at}
use Rattle.eng_state.specs.Out.{IsOut}
use Rattle.eng_array.specs.Steady.{IsSteady}
use Rattle.eng_state.specs.Steps as steps

-- ## Kinds of events. `IsOwn` is of eng_rest: not Fill, Spread or Fail.

-- no job leaves or comes home, and no column fails from outside
abbrev pub IsPlain : Traced → Type 0
IsPlain (event.Fill column device count) = ⊥
IsPlain (event.Resume column count) = ⊥
IsPlain (event.Spread column) = ⊥
IsPlain (event.Fail column) = ⊥
IsPlain (event.Begin id) = Unit {0}
IsPlain (event.Take id) = Unit {0}
IsPlain (event.Fire id n) = ⊥
IsPlain (event.Good id n) = ⊥
IsPlain (event.Bad id n) = ⊥
IsPlain (event.Skip id n) = Unit {0}
IsPlain (event.Back id) = Unit {0}

-- a node ended bad
abbrev pub IsBad : Traced → Type 0
IsBad (event.Fill column device count) = ⊥
IsBad (event.Resume column count) = ⊥
IsBad (event.Spread column) = ⊥
IsBad (event.Fail column) = ⊥
IsBad (event.Begin id) = ⊥
IsBad (event.Take id) = ⊥
IsBad (event.Fire id n) = ⊥
IsBad (event.Good id n) = ⊥
IsBad (event.Bad id n) = Unit {0}
IsBad (event.Skip id n) = ⊥
IsBad (event.Back id) = ⊥

-- node n of client c is fired
abbrev pub IsFiringOf : Traced → ℕ → ℕ → Type 0
IsFiringOf (event.Fill column device count) c n = ⊥
IsFiringOf (event.Resume column count) c n = ⊥
IsFiringOf (event.Spread column) c n = ⊥
IsFiringOf (event.Fail column) c n = ⊥
IsFiringOf (event.Begin id) c n = ⊥
IsFiringOf (event.Take id) c n = ⊥
IsFiringOf (event.Fire id m) c n = (id.client ≡ c) × (m ≡ n)
IsFiringOf (event.Good id m) c n = ⊥
IsFiringOf (event.Bad id m) c n = ⊥
IsFiringOf (event.Skip id m) c n = ⊥
IsFiringOf (event.Back id) c n = ⊥

-- its job ends
abbrev pub IsEndOf : Traced → ℕ → ℕ → Type 0
IsEndOf (event.Fill column device count) c n = ⊥
IsEndOf (event.Resume column count) c n = ⊥
IsEndOf (event.Spread column) c n = ⊥
IsEndOf (event.Fail column) c n = ⊥
IsEndOf (event.Begin id) c n = ⊥
IsEndOf (event.Take id) c n = ⊥
IsEndOf (event.Fire id m) c n = ⊥
IsEndOf (event.Good id m) c n = (id.client ≡ c) × (m ≡ n)
IsEndOf (event.Bad id m) c n = (id.client ≡ c) × (m ≡ n)
IsEndOf (event.Skip id m) c n = ⊥
IsEndOf (event.Back id) c n = ⊥

-- every element of the list
abbrev pub AllOf : {A : Type 0} → (A → Type 0) → List A → Type 0
AllOf P [] = Unit {0}
AllOf P (x ∷ xs) = P x × AllOf P xs

-- ## Nodes and tickets

-- 1 where node n of client c is node m of client d, else 0
abbrev pub is_node : ℕ → ℕ → ℕ → ℕ → ℕ
is_node c n d m = if (c == d) && (n == m) then 1 else 0

module _ {D : Type 0} where
  -- 1 for the ticket of node m of client d, else 0
  abbrev pub is_of : ℕ → ℕ → Option (Job D) → ℕ
  is_of d m None = 0
  is_of d m (Some j) = is_node j.client j.node d m

-- 1 for a node with this mark that is out, of a client at this stage
abbrev pub out_by : Stage → Status → ℕ
out_by Nothing mark = 0
out_by Waits mark = 0
out_by Runs mark = job_of mark

-- 1 where node n of the desk is out, else 0
abbrev pub out_in : Desk → ℕ → ℕ
out_in d n = out_by d.stage (mark_of d.run n)

-- ## What a core tells of itself

module _ {L D : Type 0} where
  -- 1 where node n of client c is out, else 0
  abbrev pub out_at : Array L D → ℕ → ℕ → ℕ
  out_at core c n = out_in (desk_at core.clients c) n

  -- whether the core keeps its trace, and the events that it has kept, the oldest first
  abbrev pub keeps_trace : Array L D → Bool
  keeps_trace core = core.log.keeps

  abbrev pub traced : Array L D → List Traced
  traced core = core.log.trace

  abbrev pub items_of : Array L D → ℕ → List Item
  items_of core c = (desk_at core.clients c).items

  abbrev pub graphs_of : Array L D → Graphs
  graphs_of core = steps.graphs_of core.graphs.items

  -- the device has failed
  abbrev pub failed_at : Array L D → ℕ → Bool
  failed_at core d = has_failed core.devices d

module _ {D : Type 0} where
  -- the device of what is seen, at home or out
  abbrev pub device_of : Option (Seen D) → Option D
  device_of None = None
  device_of (Some s) = Some s.device

-- all devices, by number, one that is out as it left
abbrev pub devices_of : {L D : Type 0} → Array L D → List (Option D)
devices_of core = map device_of core.devices.slots

module _ {D : Type 0} (disk : DiskGhosts D) where
  -- A frame by device, in which any sector may have changed: there are as many slots, the same of them have a device, and of each device the size stays, the count of faults doesn't fall, and what it tells of its calls goes on.
  abbrev pub DevicesGoOn : List (Option D) → List (Option D) → Type 0
  DevicesGoOn old new = Changes disk (λ d n. Unit {0}) old new

  -- how many sectors what is seen has, and its count of faults; 0 where nothing is
  abbrev pub size_in : Option (Seen D) → ℕ
  size_in None = 0
  size_in (Some s) = disk.size s.device

  abbrev pub faults_in : Option (Seen D) → ℕ
  faults_in None = 0
  faults_in (Some s) = disk.faults s.device

module _ {L D : Type 0} (lay : LayoutGhosts L) (disk : DiskGhosts D) where
  abbrev pub shape_of : Array L D → Shape
  shape_of core = lay.shape core.layout

  -- of a device that is out, as it left
  abbrev pub size_at : Array L D → ℕ → ℕ
  size_at core d = size_in disk (seen_at core.devices d)

  abbrev pub faults_at : Array L D → ℕ → ℕ
  faults_at core d = faults_in disk (seen_at core.devices d)

  -- ## One event

  -- what no event changes: the layout, the graphs, whether a trace is kept, how many clients were handed in, how many slots for devices there are, and which region each item has for what it hands out
  pub record Same (old new : Array L D) : Type 0 where
    pub layout : new.layout ≡ old.layout
    pub shape : shape_of new ≡ shape_of old
    pub graphs : graphs_of new ≡ graphs_of old
    pub keeps : keeps_trace new ≡ keeps_trace old
    pub spare : new.spare ≡ old.spare
    pub slots : length new.devices.slots ≡ length old.devices.slots
    pub regions : new.log.handed.regions ≡ old.log.handed.regions

  -- What each call promises, which is one event, named before any world is: for every world that the core before shows there is one that the core after shows, one step of the event on. Each slot has a device where it had one; no device changes its size, no count of faults falls, and what a device tells of its calls goes on; and which a bad end marks as failed, that one's count rose in the call. Only where a rebuild begins do the items of a client change, those of the array's own, 16.
  pub record Happens (e : Traced) (old new : Array L D) : Type 0 where
    pub sound : IsSteady lay disk new
    pub same : Same old new
    pub items : IsOwn e → (c : ℕ) → items_of new c ≡ items_of old c
    pub others : (c : ℕ) → c < 16 → items_of new c ≡ items_of old c
    pub told : keeps_trace old ≡ true → traced new ≡ traced old ++ e ∷ []
    pub untold : keeps_trace old ≡ false → traced new ≡ traced old
    pub leads : steps.Follows lay disk old e new
    pub devices : DevicesGoOn disk (devices_of old) (devices_of new)
    pub blame : IsBad e → (d : ℕ) → failed_at old d ≡ false → failed_at new d ≡ true → Rose (faults_at old d) (faults_at new d)

  -- ## A chain of cores

  -- these events lead from core to core, the newest first
  abbrev pub Goes : Array L D → List Traced → Array L D → Type 0
  Goes old [] new = new ≡ old
  Goes old (e ∷ events) new = (mid : Array L D) × Goes old events mid × Happens e mid new

  -- a core that comes after another, by events of clients alone
  pub record After (old new : Array L D) : Type 0 where
    pub events : List Traced
    pub own : AllOf IsOwn events
    pub goes : Goes old events new

  -- ## What is out before and after a call

  -- a call that neither fires nor finishes
  pub record KeepsJobs (old new : Array L D) : Type 0 where
    pub jobs : (j : Job D) → IsOut disk lay old j → IsOut disk lay new j
    pub nodes : (c n : ℕ) → out_at new c n ≡ out_at old c n

  -- one that fires
  pub record Lends (j : Job D) (old new : Array L D) : Type 0 where
    pub is_out : IsOut disk lay new j
    pub jobs : (i : Job D) → IsOut disk lay old i → IsOut disk lay new i
    pub nodes : (c n : ℕ) → out_at new c n ≡ out_at old c n + is_node j.client j.node c n

  -- one by which node n of client c is at home again
  pub record GetsBack (c n : ℕ) (old new : Array L D) : Type 0 where
    pub jobs : (i : Job D) → IsOut disk lay old i → is_of c n (Some i) ≡ 0 → IsOut disk lay new i
    pub nodes : (d m : ℕ) → out_at new d m + is_node c n d m ≡ out_at old d m

  -- a look changes where the next look begins, and nothing else
  pub record Quiet (old new : Array L D) : Type 0 where
    pub sound : IsSteady lay disk new
    pub is : new ≡ record old { next = new.next }

  -- ## The core and the tickets

  -- the core has what the ticket's job took
  abbrev pub IsHeld : Array L D → Option (Job D) → Type 0
  IsHeld core None = Unit {0}
  IsHeld core (Some j) = IsOut disk lay core j

  -- The jobs of the tickets are the nodes that are out, each once, and the core has what they took.
  pub record Shared (core : Array L D) (ts : List (Option (Job D))) : Type 0 where
    pub sound : IsSteady lay disk core
    pub nodes : (c n : ℕ) → sum_by (is_of c n) ts ≡ out_at core c n
    pub jobs : AllOf (IsHeld core) ts

  pub record Fits (opening core : Array L D) (ts : List (Option (Job D))) : Type 0 where
    pub after : After opening core
    pub shared : Shared core ts

-- One step of a turn: nothing, or exactly one event. A job that leaves becomes the pass's ticket, and the one that comes home is the pass's own.
pub data Turned {L D : Type 0} (lay : LayoutGhosts L) (disk : DiskGhosts D) (old : Array L D) (t : Option (Job D)) (new : Array L D) (u : Option (Job D)) : Type 0 where
  nothing : new ≡ old → u ≡ t → Turned lay disk old t new u
  plain : (e : Traced) → IsPlain e → u ≡ t → Happens lay disk e old new → KeepsJobs lay disk old new → Turned lay disk old t new u
  fired : (j : Job D) (e : Traced) → IsFiringOf e j.client j.node → t ≡ None → u ≡ Some j → Happens lay disk e old new → Lends lay disk j old new → Turned lay disk old t new u
  ended : (j : Job D) (e : Traced) → IsEndOf e j.client j.node → t ≡ Some j → u ≡ None → Happens lay disk e old new → GetsBack lay disk j.client j.node old new → Turned lay disk old t new u
