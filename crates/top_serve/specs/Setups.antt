-- What is served: how much of it there may be, which array it is, when nothing is served, and which rebuild may start.
use Rattle.std.specs.Prelude.{◌≡◌, ◌<◌, ◌≤◌, ◌+◌, ◌*◌, ◌^◌, ℕ, List, length, count_by, Option, Some, None, IsSome, slice_get, slice_set}
use Rattle.blk_disk.specs.declared.disk.Disk.{Ghosts as DiskGhosts}
use Rattle.blk_disk.specs.Devices.{contents_of}
use Rattle.lay_core.specs.Layout.{Shape}
use Rattle.lay_core.specs.declared.layout.Layout.{Ghosts as LayoutGhosts}
use Rattle.eng_cols.specs.declared.column.Column.{Column}
use Rattle.eng_cols.specs.declared.column.Column.TheVariants as column
use Rattle.eng_cols.specs.declared.spot.Loss.{Loss}
use Rattle.eng_cols.specs.Cols.{ColumnState, Columns, is_set_filling, HasDeviceOn}
use Rattle.eng_cols.specs.Contents.{InSync}
use Rattle.eng_cols.specs.Lost.{NotLost, IsLost}
use Rattle.eng_world.specs.Planning.{Graphs}
use Rattle.eng_parts.specs.declared.core_room.CoreRoom.{CoreRoom}
use Rattle.eng_parts.specs.declared.setup.Setup.{Setup}
use Rattle.eng_parts.specs.Fresh.{IsRoomFor}
use Rattle.eng_log.specs.Laid.{items_before, sectors_before}
use Rattle.eng_cols.specs.Stripes.{states_of}
use Rattle.eng_state.specs.Steps as steps
use Rattle.eng_array.specs.declared.start.Start.{Start}
use Rattle.eng_array.specs.declared.start.Start.TheVariants as start
use Rattle.eng_array.specs.Fitting.{FitsRebuilding}
use Rattle.eng_array.specs.Starts.{begun_by, column_of, most_of}
use Rattle.top_serve.specs.declared.refused.ServeFault.{ServeFault}
use Rattle.top_serve.specs.declared.refused.ServeFault.TheVariants as fault

-- At most 16 clients, with 65,536 items in all, whose reads have 262,144 sectors; and devices are numbered by 32 bits.
pub record IsFew {L D : Type 0} (setup : Setup L D) : Type 0 where
  pub clients : length setup.clients.items ≤ 16
  pub items : items_before setup.clients.items 16 ≤ 65536
  pub sectors : sectors_before setup.clients.items 16 ≤ 262144
  pub devices : length setup.devices.items < 2 ^ 32

module _ {L D : Type 0} where
  -- the graphs of the file, and the library's
  abbrev pub graphs_in : Setup L D → Graphs
  graphs_in setup = steps.graphs_of setup.graphs.items

module _ {L D : Type 0} (lay : LayoutGhosts L) where
  abbrev pub shape_in : Setup L D → Shape
  shape_in setup = lay.shape setup.layout

  -- the columns as the core is opened: each stripe of a spread one is done
  abbrev pub states_in : Setup L D → List ColumnState
  states_in setup = states_of (shape_in setup) setup.columns.items

  -- the same, as a core has them
  abbrev pub columns_in : Setup L D → Columns
  columns_in setup = record { states = states_in setup; stripes = (shape_in setup).stripes }

  -- no stripe lacks more than its check unit makes up for
  abbrev pub IsNotLost : Setup L D → Type 0
  IsNotLost setup = NotLost (shape_in setup) (states_in setup)

  -- the array is lost by this loss
  abbrev pub IsLostBy : Setup L D → Loss → Type 0
  IsLostBy setup loss = IsLost (shape_in setup) (states_in setup) loss

  -- that, or there was want of memory, which says nothing of the array
  abbrev pub IsServeRefusal : Setup L D → ServeFault → Type 0
  IsServeRefusal setup (fault.Lost loss) = IsLostBy setup loss
  IsServeRefusal setup fault.Memory = Unit {0}

  -- the room is one for what is to be served: its layout, as many devices, its items and graphs, and its trace
  abbrev pub IsRoomOf : Setup L D → CoreRoom D → Type 0
  IsRoomOf setup room = IsRoomFor (shape_in setup) (length setup.devices.items) setup.clients.items setup.graphs.items setup.trace room

  -- the check units of the array fit its data, by what its devices hold
  abbrev pub WasInSync : DiskGhosts D → Setup L D → Type 0
  WasInSync disk setup = InSync (shape_in setup) (contents_of disk setup.devices.items) (states_in setup)

-- a sector that is told has 512 bytes
abbrev pub SectorsAreLong : {D : Type 0} → DiskGhosts D → Type 0
SectorsAreLong {D} disk = (d : D) (s : ℕ) → disk.tells → s < disk.size d → length (disk.sector d s) ≡ 512

-- ## The start of a rebuild

-- what the start of a rebuild makes of columns
abbrev pub started_from : Columns → Option Start → List ColumnState
started_from cols None = cols.states
started_from cols (Some how) = begun_by cols how

-- the columns once a rebuild has started so, if one has: its column is filling the device, of which no stripe is done, or as much as before; or it is spread
abbrev pub with_start : Option Start → List Column → List Column
with_start None columns = columns
with_start (Some (start.Fill c device most)) columns = slice_set columns c (column.Filling device 0)
with_start (Some (start.Resume c most)) columns = columns
with_start (Some (start.Spread c)) columns = slice_set columns c column.Spread

module _ {L D : Type 0} (lay : LayoutGhosts L) where
  -- the columns as the clients' own events find them; of a spread one it is not said here which stripes are done
  abbrev pub begun_in : Setup L D → Option Start → List ColumnState
  begun_in setup how = states_of (lay.shape setup.layout) (with_start how setup.columns.items)

  -- the columns as the rebuild's own event leaves them: of a spread one no stripe is done
  abbrev pub begun_for : Setup L D → Option Start → List ColumnState
  begun_for setup how = started_from (columns_in lay setup) how

  -- the device is there, large enough, and in no column
  pub record IsFreeDevice (disk : DiskGhosts D) (setup : Setup L D) (device : ℕ) : Type 0 where
    pub there : D
    pub there_is : slice_get setup.devices.items device ≡ Some (Some there)
    pub size : 64 + (lay.shape setup.layout).rows * (lay.shape setup.layout).unit_sectors ≤ disk.size there
    pub unused : (k : ℕ) → HasDeviceOn setup.columns.items k device → ⊥

  -- no column is spread, and each stripe has a spare place
  pub record HasSparePlaces (setup : Setup L D) : Type 0 where
    pub none_spread : (k : ℕ) → slice_get setup.columns.items k ≡ Some column.Spread → ⊥
    pub spares : (s : ℕ) → s < (lay.shape setup.layout).stripes → IsSome ((lay.shape setup.layout).spare s)

  -- the column is dead, and none is filling
  pub record IsUnfilled (setup : Setup L D) (c : ℕ) : Type 0 where
    pub dead : slice_get setup.columns.items c ≡ Some column.Dead
    pub none_filling : count_by is_set_filling setup.columns.items ≡ 0

  -- the column is dead and there is what is written on, or it is filling
  abbrev pub HasTarget : DiskGhosts D → Setup L D → Start → Type 0
  HasTarget disk setup (start.Fill c device most) = IsUnfilled setup c × IsFreeDevice disk setup device
  HasTarget disk setup (start.Resume c most) = (device : ℕ) × (done : ℕ) × (slice_get setup.columns.items c ≡ Some (column.Filling device done))
  HasTarget disk setup (start.Spread c) = IsUnfilled setup c × HasSparePlaces setup

  -- its column is there, so is what it writes on, and a trace that is kept has room for it
  pub record MayRebuild (disk : DiskGhosts D) (setup : Setup L D) (how : Start) : Type 0 where
    pub target : HasTarget disk setup how
    pub room : FitsRebuilding lay setup (begun_by (columns_in lay setup) how) (column_of how) (most_of how)

  -- where a rebuild is to start, it may
  abbrev pub MayStart : DiskGhosts D → Setup L D → Option Start → Type 0
  MayStart disk setup None = Unit {0}
  MayStart disk setup (Some how) = MayRebuild disk setup how
