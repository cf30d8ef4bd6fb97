-- Runs with a parity map: events of the world, between marks, settles and clears of single devices. A stop may come after any of them.
use Rattle.std.specs.Prelude.{◌≡◌, ◌≢◌, ℕ, ◌+◌, ◌<◌, ◌≤◌, List, [], ◌∷◌, ◌++◌, ◌⊎◌, Contains, Bool, true, false, Option, Some, None, slice_get}
use Rattle.blk_plain.specs.declared.op.Op.{Op}
use Rattle.blk_disk.specs.declared.disk.Call.{Call}
use Rattle.lay_core.specs.Layout.{Shape}
use Rattle.graph_mean.specs.declared.graph.Node.TheVariants.{Wr}
use Rattle.graph_mean.specs.declared.step.Status.TheVariants.{Out}
use Rattle.graph_mean.specs.declared.task.Kind.TheVariants as kind
use Rattle.graph_mean.specs.Graph.{View, kind_at}
use Rattle.graph_mean.specs.Task.{Aim, Missing}
use Rattle.graph_mean.specs.Steps.{stripe_of}
use Rattle.eng_cols.specs.Cols.{ColumnState, Dead, HasDevice, InOrder}
use Rattle.eng_cols.specs.declared.spot.Spot.{Spot}
use Rattle.eng_cols.specs.Contents.{Contents, InSync}
use Rattle.eng_world.specs.declared.item.Traced.{Traced}
use Rattle.eng_world.specs.declared.item.Traced.TheVariants as event
use Rattle.eng_world.specs.declared.item.Item.TheVariants as item
use Rattle.eng_world.specs.World.{Running, World, RunsAs, IsRead}
use Rattle.eng_world.specs.Planning.{Graphs, InReach, Concerns}
use Rattle.eng_world.specs.Nodes.{IsWrittenAt}
use Rattle.eng_world.specs.Step.{IsOpening, Step}
use Rattle.raid_map.specs.Regions.{region_of, IsMap}
use Rattle.raid_map.specs.Stops.{Logged, Stored, SameSector, MayHold, IsImage}
use Rattle.raid_map.specs.Union.{UnionMarks, IsUnsound}

-- Sector 1 of a device is written with a map; a device is settled, and answers that it is; an event of the world; and sector 1 of a device is written with a map without marks.
pub data Event : Type 0 where
  Mark : (device : ℕ) (marks : ℕ → Bool) → Event
  Settle : (device : ℕ) → Event
  Happens : (event : Traced) → Event
  Clear : (device : ℕ) → Event

-- The world, but for sector 1 of its devices, and what a stop may leave of them.
pub record Mapped : Type 0 where
  pub world : World
  pub stored : ℕ → Stored

-- ## What an event does

-- the other devices stay
abbrev pub OtherDevices : ℕ → (ℕ → Stored) → (ℕ → Stored) → Type 0
OtherDevices d old new = (k : ℕ) → k ≢ d → new k ≡ old k

-- sector 1 of the device is written with a map that marks these regions
pub record Writes (serial stripes d : ℕ) (marks : ℕ → Bool) (old new : ℕ → Stored) : Type 0 where
  pub others : OtherDevices d old new
  pub rest : (n k : ℕ) → n ≢ 1 → (new d).now n k ≡ (old d).now n k
  pub settled : (n k : ℕ) → (new d).settled n k ≡ (old d).settled n k
  pub entry : Logged
  pub logged : (new d).logged ≡ entry ∷ (old d).logged
  pub sector : entry.sector ≡ 1
  pub map : IsMap serial stripes marks entry.bytes
  pub now : SameSector ((new d).now 1) entry.bytes

-- the device is settled: what it holds is its settled content, and its log is empty
pub record Settles (d : ℕ) (old new : ℕ → Stored) : Type 0 where
  pub others : OtherDevices d old new
  pub now : (n k : ℕ) → (new d).now n k ≡ (old d).now n k
  pub settled : (n k : ℕ) → (new d).settled n k ≡ (old d).now n k
  pub logged : (new d).logged ≡ []

-- the event's call on device d, which is told, is a write of sector n
pub record IsWrite (old new : World) (d n : ℕ) (call : Call) : Type 0 where
  pub told : new.calls d ≡ old.calls d ++ call ∷ []
  pub write : call.kind ≡ 1
  pub from : call.first ≤ n
  pub to : n < call.first + call.count

-- a write of the event's is logged: where it was good, with what the sector holds now; where it failed, with any bytes
pub record IsLogged (old new : World) (d : ℕ) (entry : Logged) : Type 0 where
  pub call : Call
  pub is_write : IsWrite old new d entry.sector call
  pub bytes : call.good ≡ true → SameSector entry.bytes (new.contents d entry.sector)

-- What an event of the world makes of device d: it holds what the world says, but for sector 1, which no event changes; and the sectors that the event wrote are logged.
pub record Logs (d : ℕ) (old new : World) (was is : Stored) : Type 0 where
  pub now : (n k : ℕ) → n ≢ 1 → is.now n k ≡ new.contents d n k
  pub map : (k : ℕ) → is.now 1 k ≡ was.now 1 k
  pub settled : (n k : ℕ) → is.settled n k ≡ was.settled n k
  pub more : List Logged
  pub logged : is.logged ≡ more ++ was.logged
  pub only : (entry : Logged) → Contains more entry → IsLogged old new d entry
  pub all : (n : ℕ) (call : Call) → IsWrite old new d n call → (entry : Logged) × Contains more entry × (entry.sector ≡ n) × SameSector entry.bytes (new.contents d n)

-- ## When an event may come

-- the device was marked, and settled since
pub record IsSafe (events : List Event) (d : ℕ) : Type 0 where
  pub later : List Event
  pub marks : ℕ → Bool
  pub before : List Event
  pub split : events ≡ later ++ Mark d marks ∷ before
  pub settled : Contains later (Settle d)

-- the bytes are a map that marks all of these regions
pub record MarksAll (serial stripes : ℕ) (regions : ℕ → Bool) (bytes : ℕ → ℕ) : Type 0 where
  pub marks : ℕ → Bool
  pub all : (r : ℕ) → regions r ≡ true → marks r ≡ true
  pub map : IsMap serial stripes marks bytes

-- whatever a stop leaves of the device's sector 1 is such a map
abbrev pub HasMarks : ℕ → ℕ → (ℕ → Bool) → Stored → Type 0
HasMarks serial stripes regions x = (bytes : ℕ → ℕ) → MayHold x 1 bytes → MarksAll serial stripes regions bytes

-- the device was settled since the last event of the world
pub record IsSettled (events : List Event) (d : ℕ) : Type 0 where
  pub later : List Event
  pub before : List Event
  pub split : events ≡ later ++ Settle d ∷ before
  pub last : (e : Traced) → Contains later (Happens e) → ⊥

-- each stripe that a running operation may write lies in one of the regions
abbrev pub Covers : Shape → (ℕ → Bool) → World → Type 0
Covers y regions w = (c n unit buf : ℕ) (r : Running) → RunsAs w c r → kind_at r.plan.graph n ≡ Wr unit buf → regions (region_of y.stripes (r.plan.stripe (stripe_of r.plan.graph buf))) ≡ true

-- the graph has a write
abbrev pub HasWrite : View → Type 0
HasWrite g = (n : ℕ) × (unit : ℕ) × (buf : ℕ) × (kind_at g n ≡ Wr unit buf)

-- a graph by which a read is served has a write: the one of the file that it names, or one of the library's
abbrev pub ReadWrites : Graphs → Option ℕ → Type 0
ReadWrites graphs (Some number) = (n : ℕ) × (unit : ℕ) × (buf : ℕ) × (kind_at (graphs.file number) n ≡ Wr unit buf)
ReadWrites graphs None = (t : Aim) × (missing : Missing) × (t.kind ≡ kind.Read)
    × ((n : ℕ) × (unit : ℕ) × (buf : ℕ) × (kind_at (graphs.library t missing) n ≡ Wr unit buf))

-- the operation may write: it is no read, or its graph has a write
abbrev pub MayWrite : Graphs → Op → Option ℕ → Type 0
MayWrite graphs op graph = (IsRead (Some op) → ⊥) ⊎ ReadWrites graphs graph

-- What the regions are to hold: the stripes that each operation in reach concerns which may write, whoever asks it, client 16 among them.
abbrev pub AreAskedFor : Shape → Graphs → (ℕ → Bool) → World → Type 0
AreAskedFor y graphs regions w = (c n : ℕ) (op : Op) (graph : Option ℕ) (s : ℕ) → slice_get (w.clients c).items n ≡ Some (item.Run op graph) → MayWrite graphs op graph → InReach y op → s < y.stripes → Concerns y op s → regions (region_of y.stripes s) ≡ true

-- no operation runs
abbrev pub NoneRuns : World → Type 0
NoneRuns w = (c : ℕ) (r : Running) → RunsAs w c r → ⊥

-- the device is in use
abbrev pub IsUsed : World → ℕ → Type 0
IsUsed w d = (c : ℕ) × HasDevice w.columns c d

module _ (y : Shape) (graphs : Graphs) (serial : ℕ) (regions : ℕ → Bool) where
  -- Before each event of the world each device that has been in use since the beginning had its marks at the start, or was marked and is safe; and no map was cleared. A mark has all regions of what is asked. A map is cleared once nothing is under way and each device in use was settled behind the last event.
  abbrev pub Leads : Mapped → Event → List Event → Mapped → Mapped → Type 0
  Leads start (Mark d marks) earlier old new =
      (new.world ≡ old.world) × Writes serial y.stripes d marks old.stored new.stored × ((r : ℕ) → regions r ≡ true → marks r ≡ true)
  Leads start (Settle d) earlier old new = (new.world ≡ old.world) × Settles d old.stored new.stored
  Leads start (Happens e) earlier old new =
      Step y graphs e old.world new.world
      × ((d : ℕ) → Logs d old.world new.world (old.stored d) (new.stored d))
      × AreAskedFor y graphs regions new.world
      × ((d : ℕ) → IsUsed start.world d → IsUsed old.world d → HasMarks serial y.stripes regions (start.stored d) ⊎ IsSafe earlier d)
      × ((d : ℕ) → Contains earlier (Clear d) → ⊥)
  Leads start (Clear d) earlier old new =
      (new.world ≡ old.world) × Writes serial y.stripes d (λ r. false) old.stored new.stored
      × (old.world.lost ≡ None) × NoneRuns old.world
      × ((k : ℕ) → IsUsed old.world k → IsSettled earlier k)

  -- these events lead from start to now, the newest first
  abbrev pub MappedRun : Mapped → List Event → Mapped → Type 0
  MappedRun start [] now = now ≡ start
  MappedRun start (e ∷ events) now = (mid : Mapped) × MappedRun start events mid × Leads start e events mid now

-- An array is opened, each device holds what the world says, and that is what a stop may leave of it.
pub record IsStart (y : Shape) (start : Mapped) : Type 0 where
  pub opening : IsOpening y start.world
  pub now : (d n k : ℕ) → n ≢ 1 → (start.stored d).now n k ≡ start.world.contents d n k
  pub may_hold : (d n : ℕ) → MayHold (start.stored d) n ((start.stored d).now n)

-- In each image that a stop may leave of the start a stripe that lacks no unit by these columns and doesn't sum to zero lies in one of the regions, and in one that the union marks in that image.
abbrev pub UnsoundLieIn : Shape → ℕ → (ℕ → Bool) → List ColumnState → Mapped → Type 0
UnsoundLieIn y serial regions cols start = (image : Contents) (s : ℕ) → IsImage start.stored image → IsUnsound y cols image s → (regions (region_of y.stripes s) ≡ true) × UnionMarks y serial cols image (region_of y.stripes s)

-- A write that is out writes sector n of device d: it may be there already, or not, or a part of it.
pub record IsUnderWay (y : Shape) (w : World) (d n : ℕ) : Type 0 where
  pub client : ℕ
  pub node : ℕ
  pub unit : ℕ
  pub buf : ℕ
  pub run : Running
  pub at : Spot
  pub runs : RunsAs w client run
  pub out : run.node node ≡ Out
  pub is : kind_at run.plan.graph node ≡ Wr unit buf
  pub fired : run.fired_at node ≡ Some at
  pub there : IsWrittenAt y run.plan.graph buf at d n

-- A stop may leave this: of each sector its settled content, or that of a write since; and anything, where a write of it is under way.
abbrev pub IsLeft : Shape → Mapped → Contents → Type 0
IsLeft y m image = (d n : ℕ) → MayHold (m.stored d) n (image d n) ⊎ IsUnderWay y m.world d n

-- in each image that a stop may leave the array is in sync
abbrev pub InSyncAnyhow : Shape → Mapped → Type 0
InSyncAnyhow y m = (image : ℕ → ℕ → ℕ → ℕ) → IsImage m.stored image → InSync y image m.world.columns

-- Columns that the array had before it was opened, as its labels still say: since then each has stayed as it was or has died, and no device of theirs is given to another column.
pub record IsEarlier (earlier opened : List ColumnState) (events : List Event) : Type 0 where
  pub order : InOrder earlier
  pub each : (c : ℕ) → (slice_get opened c ≡ slice_get earlier c) ⊎ (slice_get opened c ≡ Some Dead)
  pub filled : (c k d count : ℕ) → HasDevice earlier c d → Contains events (Happens (event.Fill k d count)) → k ≡ c
